-- The facts about `pass` that the check is told: the bits after one byte more, and what bit 0 then says.
use native.Mathlib.Omega.{arith}
use Prim.Native.Nat.{ℕ, suc, ◌+◌, ◌-◌, ◌/◌, ◌<◌, ◌≤◌, ◌^◌, ◌%◌}
use mathlib.Core.Path.{◌≡◌, sym, ap, ◌∙◌}
use mathlib.Core.Bool.{true, false}
use lib.Bits.{bit_and}
use lib.ListN.{length, get_or, drop}
use Rattle.meaning.specs.Choice.{Bytes, starts_with}
use Rattle.run_finding.specs.Occurrences.{occurrence_of, backwards, Marks}
use Rattle.run_finding.proofs.Laws.Passing.{after, none_read, next-bits, goes_on_lem, ends-here, ended-size, all-decided}
use Rattle.run_finding.proofs.Laws.Passing.{none-decided, odd-ended, even-on}
use Rattle.run_finding.proofs.pass.Goals as goal

module _ (string text marks : Bytes) (first read state top : ℕ) (some : 1 ≤ length string) (m : Marks string marks)
    (e : state ≡ after string text first read) (e' : top ≡ 2 ^ (length string - 1)) (byte : get_or text (first + read) 0 < 256) where
  -- the string has a first byte
  sized : length string ≡ suc (length string - 1)
  sized = omega arith

  -- the bits after the byte that is read
  bits : bit_and (state / 2 + top) (get_or marks (get_or text (first + read) 0) 0) ≡ after string text first (read + 1)
  bits = next-bits string text first (length string - 1) read sized _ _ e e' _ (m.each _ byte)

  -- the string ends at that byte, or it doesn't
  ended : bit_and (state / 2 + top) (get_or marks (get_or text (first + read) 0) 0) % 2 ≡ 1 →
      starts_with (backwards string (length string)) (backwards (drop first text) (read + 1)) ≡ true
  ended odd = odd-ended string text first _ (read + 1) sized (rw bits at odd)

  goes : (bit_and (state / 2 + top) (get_or marks (get_or text (first + read) 0) 0) % 2 ≡ 1 → ⊥) →
      starts_with (backwards string (length string)) (backwards (drop first text) (read + 1)) ≡ false
  goes even = even-on string text first _ (read + 1) sized (rw bits at even)

pub loop-read-init : goal.loop-read-init
loop-read-init c =
    let a = c.args in (
      sym (none_read a.string.now a.text.now a.first),
      none-decided a.string.now a.text.now a.first a.places c.requires.in_bounds,
    )

pub overflow_sub-result : goal.overflow_sub-result
overflow_sub-result c =
    let a = c.args in
    let read = c.loop-read.read in
    let byte : get_or a.text.now (a.first + read) 0 < 256 = omega (arith, c.type_inv.text (a.first + read)) in
    let end = ended a.string.now a.text.now a.marks.now a.first read _ _ c.requires.in_bounds c.requires.marks c.loop-read.invariant.0
    c.power-top.ensures byte c.if-state-eq1.true in
    omega (arith, ended-size a.string.now a.text.now a.first a.places read (omega arith) (omega arith) end)

pub returns-then-state-eq1 : goal.returns-then-state-eq1
returns-then-state-eq1 c =
    let a = c.args in
    let read = c.loop-read.read in
    let byte : get_or a.text.now (a.first + read) 0 < 256 = omega (arith, c.type_inv.text (a.first + read)) in
    let end = ended a.string.now a.text.now a.marks.now a.first read _ _ c.requires.in_bounds c.requires.marks c.loop-read.invariant.0
    c.power-top.ensures byte c.if-state-eq1.true in
    ap occurrence_of (sym (ends-here a.string.now a.text.now a.first a.places read (omega arith) (omega arith) end) ∙ c.loop-read.invariant.1)

pub loop-read-preserved : goal.loop-read-preserved
loop-read-preserved c =
    let a = c.args in
    let read = c.loop-read.read in
    let byte : get_or a.text.now (a.first + read) 0 < 256 = omega (arith, c.type_inv.text (a.first + read)) in
    let on = goes a.string.now a.text.now a.marks.now a.first read _ _ c.requires.in_bounds c.requires.marks c.loop-read.invariant.0
    c.power-top.ensures byte c.if-state-eq1.false in (
      bits a.string.now a.text.now a.marks.now a.first read _ _ c.requires.in_bounds c.requires.marks c.loop-read.invariant.0
          c.power-top.ensures byte,
      sym (goes_on_lem a.string.now a.text.now a.first a.places read (omega arith) (omega arith) on) ∙ c.loop-read.invariant.1,
    )

pub returns : goal.returns
returns c =
    let a = c.args in
    let none = all-decided a.string.now a.text.now a.first a.places _ c.requires.in_bounds c.loop-read-test.false in
    ap occurrence_of (sym none ∙ c.loop-read.invariant.1)
