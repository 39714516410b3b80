-- Lines written one after another: what is left of them, written from here, gives what all of them give from the start.
use Prim.Native.Nat.{ℕ, suc, ◌+◌, ◌*◌, ◌≤◌, ◌<◌}
use native.Mathlib.Omega.{arith}
use native.Mathlib.Numerals.{add-one}
use mathlib.Core.Path.{◌≡◌}
use mathlib.Core.List.{List, [], ◌++◌}
use lib.ListN.{length, drop, get_or, drop_of_length-le}
use Rattle.meaning.specs.Choice.{Bytes}
use Rattle.meaning.proofs.Laws.Remaining.{at_place}
use Rattle.tape_words.specs.Words.{head_name, head_names}
use Rattle.byte_writing.specs.declared.ByteWriter.{ByteWriter}
use Rattle.byte_writing.specs.Wrote.{Wrote}
use Rattle.byte_writing.proofs.Writing.{wrote-none, wrote_then}
use Rattle.program_printing.specs.Texts.{profile_line, profile_lines, WroteAtMost}
use Rattle.program_profile.specs.Profiles.{line_cells}

abbrev lines_from : List ℕ → List ℕ → List ℕ → ℕ → Bytes
lines_from ws heads counts k = profile_lines k (head_names ws (drop k heads)) (drop k counts)

-- the lines of the first k functions are written: to write the others from here is to write all from the start
pub record LinesSoFar (ws heads counts : List ℕ) (first w : ByteWriter) (k : ℕ) : Type 0 where
  pub near : w.at ≤ first.at + line_cells * k
  pub rest : {last : ByteWriter} → Wrote w (lines_from ws heads counts k) last → Wrote first (lines_from ws heads counts 0) last

module _ (ws heads counts : List ℕ) (k : ℕ) (h : k < length heads) (few : length heads ≤ length counts) where
  line_first : lines_from ws heads counts k ≡
      profile_line (suc k) (head_name ws (get_or heads k 0)) (get_or counts k 0) ++ lines_from ws heads counts (k + 1)
  unfolding profile_lines
  line_first = rw (at_place heads k h, at_place counts k (omega arith), add-one k)

pub lines-go-on : {ws heads counts : List ℕ} {first w next : ByteWriter} {k : ℕ}
    → LinesSoFar ws heads counts first w k → k < length heads → length heads ≤ length counts
    → WroteAtMost line_cells w (profile_line (k + 1) (head_name ws (get_or heads k 0)) (get_or counts k 0)) next
    → LinesSoFar ws heads counts first next (k + 1)
lines-go-on {ws} {heads} {counts} {k = k} s h few p =
    record {
      near = omega (arith, s.near, p.near);
      rest = λ q. s.rest (rw (line_first ws heads counts k h few) (wrote_then (rw (add-one k) at p.wrote) q));
    }

pub lines-all : {ws heads counts : List ℕ} {first w : ByteWriter} {k : ℕ} → LinesSoFar ws heads counts first w k → k ≤ length heads →
    length heads ≤ k → WroteAtMost (line_cells * length heads) first (profile_lines 0 (head_names ws heads) counts) w
unfolding profile_lines
lines-all {ws} {heads} {counts} {k = k} s l h =
    let none : lines_from ws heads counts k ≡ [] = rw (drop_of_length-le heads h) in
    record { wrote = s.rest (rw none wrote-none); near = omega (arith, s.near) }
