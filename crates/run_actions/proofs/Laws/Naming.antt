-- An emission's name in the code words, and its line in the record.
use Prim.Native.Nat.{ℕ, zero, suc, ◌+◌, ◌-◌, ◌%◌, ◌≤◌, ◌<◌}
use native.Mathlib.Nat.{not-suc-le-zero, le_of_suc-le-suc, mod-eq_of_lt, add_assoc, add-zero, sub-zero}
use native.Mathlib.Numerals.{add-one}
use native.Mathlib.Omega.{arith}
use mathlib.Core.Path.{◌≡◌, refl, sym, ◌∙◌}
use mathlib.Core.Bool.{Bool, true, false}
use Rattle.std.specs.Prelude.{◌&&◌}
use Rattle.std.specs.List.{list_all}
use mathlib.Core.List.{[], ◌∷◌, ◌++◌, append_assoc}
use lib.Dec.{leb}
use lib.ListN.{length, get_or, take, drop, set, length-drop, length-append}
use lib.Seq.{get_or-take, get_or-drop, drop-drop, length-take-le, set_split, paste, take-paste, drop-paste, take-length, take_all, length-paste, append_snoc}
use borrow.Author.Tests.{le-leb, lt-leb, leb-true, lt-ltb, le-ltb, ltb-true}
use Rattle.meaning.specs.Choice.{Bytes, both, every}
use Rattle.meaning.specs.Outcome.{emitted_line}
use Rattle.meaning.specs.Allowed.{is_byte}
use Rattle.meaning.specs.Packing.{Words}
use Rattle.code_numbers.specs.Numbers.{operand}
use Rattle.run_decoding.specs.Decoded.{is_name}
use Rattle.run_actions.specs.States.{line_marks}
use Rattle.meaning.proofs.Laws.Choosing.{both-parts}
use Rattle.meaning.proofs.Laws.Remaining.{at_place}

-- WORDS THAT ARE BYTES

-- std's word for the same
pub listed : (test : ℕ → Bool) (l : Words) → list_all test l ≡ every test l
unfolding every
listed test [] = refl
listed test (x ∷ l) = rw (listed test l) (each (test x) (every test l)) where
  each : (a b : Bool) → (a && b) ≡ both a b
  each true b = refl
  each false b = refl

pub every-at : (l : Words) (i : ℕ) → every is_byte l ≡ true → i < length l → get_or l i 0 < operand
unfolding every
every-at [] i e h = absurd (not-suc-le-zero h)
every-at (x ∷ l) zero e h = ltb-true x operand (both-parts (is_byte x) (every is_byte l) e).0
every-at (x ∷ l) (suc i) e h = every-at l i (both-parts (is_byte x) (every is_byte l) e).1 (le_of_suc-le-suc h)

module _ (words : Words) (at : ℕ) where
  pub no_name : (n : ℕ) → length words - at < n → is_name n (drop at words) ≡ false
  no_name n h = rw (length-drop at words, lt-leb n (length words - at) h)

  -- a name is there, byte by byte
  pub record Spelled (n : ℕ) : Type 0 where
    pub there : n ≤ length words - at
    pub bytes : every is_byte (take n (drop at words)) ≡ true

  pub spelled : (n : ℕ) → is_name n (drop at words) ≡ true → Spelled n
  spelled n e =
      let t = both-parts (leb n (length (drop at words))) (every is_byte (take n (drop at words))) e in
      record { there = rw length-drop at (leb-true n (length (drop at words)) t.0); bytes = t.1 }

  pub spelled-long : (n : ℕ) → Spelled n → length (take n (drop at words)) ≡ n
  spelled-long n s = length-take-le n (drop at words) (rw length-drop s.there)

-- the words from a place on are all of them
pub all_from : (at : ℕ) (words : Words) → take (length words - at) (drop at words) ≡ drop at words
all_from at words = take_all (length words - at) (drop at words) (rw length-drop (omega arith))

pub named : (words : Words) (at n : ℕ) (b : Bool) → n ≤ length words - at → b ≡ list_all is_byte (take n (drop at words)) →
    b ≡ is_name n (drop at words)
named words at n b h e = rw (length-drop at words, le-leb n (length words - at) h) (e ∙ listed is_byte (take n (drop at words)))

-- ONE PART OF A LINE AFTER ANOTHER

-- bytes over those from a place on
abbrev pub placed : Bytes → ℕ → Bytes → Bytes
placed d at s = paste d at s (length s)

pub set-placed : (d : Bytes) (at v : ℕ) → at < length d → set d at v ≡ placed d at (v ∷ [])
set-placed d at v h = rw (add-one at) (set_split d at v h ∙ sym (append_snoc (take at d) v (drop (suc at) d)))

pub placed-after : (d : Bytes) (at : ℕ) (s t : Bytes) → at + length s ≤ length d → placed (placed d at s) (at + length s) t ≡ placed d at (s ++ t)
placed-after d at s t h =
    let n = length s in
    let past : drop (at + n + length t) (paste d at s n) ≡ drop (at + n + length t) d =
    sym (drop-drop (length t) (at + n) (paste d at s n)) ∙ rw (drop-paste d at s n (omega arith) (omega arith)) (drop-drop (length t) (at + n) d) in
    rw (
      past,
      take-paste d at s n (omega arith) (omega arith),
      take-length s,
      take-length t,
      take-length (s ++ t),
      length-append s t,
      append_assoc (take at d) s t,
      ← (add_assoc at n (length t)),
    )

-- one byte after what was placed
placed-byte : (d : Bytes) (at v : ℕ) (s : Bytes) → at + length s < length d → set (placed d at s) (at + length s) v ≡ placed d at (s ++ v ∷ [])
placed-byte d at v s h =
    set-placed (placed d at s) (at + length s) v (rw (length-paste d at s (length s) (omega arith) (omega arith)) h) ∙
    placed-after d at s (v ∷ []) (omega arith)

pub length-line : (name argument : Bytes) → length (emitted_line name argument) ≡ length name + length argument + line_marks
length-line name argument = rw (length-append name (32 ∷ (argument ++ 10 ∷ [])), length-append argument (10 ∷ [])) (omega arith)

module _ (d name argument : Bytes) (at : ℕ) (h : at + (length name + length argument + line_marks) ≤ length d) where
  gapped : set (placed d at name) (at + length name) 32 ≡ placed d at (name ++ 32 ∷ [])
  gapped = placed-byte d at 32 name (omega arith)

  argued : placed (placed d at (name ++ 32 ∷ [])) (at + length name + 1) argument ≡ placed d at ((name ++ 32 ∷ []) ++ argument)
  argued =
      let e : at + length name + 1 ≡ at + length (name ++ 32 ∷ []) = rw (length-append name (32 ∷ [])) (omega arith) in
      rw e (placed-after d at (name ++ 32 ∷ []) argument (rw (length-append name (32 ∷ [])) (omega arith)))

  ended : set (placed d at ((name ++ 32 ∷ []) ++ argument)) (at + length name + 1 + length argument) 10 ≡
      placed d at (((name ++ 32 ∷ []) ++ argument) ++ 10 ∷ [])
  ended =
      let e : at + length name + 1 + length argument ≡ at + length ((name ++ 32 ∷ []) ++ argument) =
      rw (length-append (name ++ 32 ∷ []) argument, length-append name (32 ∷ [])) (omega arith) in
      rw e (placed-byte d at 10 ((name ++ 32 ∷ []) ++ argument)
      (rw (length-append (name ++ 32 ∷ []) argument, length-append name (32 ∷ [])) (omega arith)))

  -- name, byte 32, argument, byte 10, each after the other
  pub line-placed :
      set (placed (set (placed d at name) (at + length name) 32) (at + length name + 1) argument) (at + length name + 1 + length argument) 10 ≡
      paste d at (emitted_line name argument) (length name + length argument + line_marks)
  line-placed =
      rw (
        gapped,
        argued,
        ended,
        append_assoc (name ++ 32 ∷ []) argument (10 ∷ []),
        append_assoc name (32 ∷ []) (argument ++ 10 ∷ []),
        length-line name argument,
      )

pub line-written : (d name argument : Bytes) (at n : ℕ) → length name ≡ n → at + (n + length argument + line_marks) ≤ length d →
    set (paste (set (paste d at name n) (at + n) 32) (at + n + 1) argument (length argument)) (at + n + 1 + length argument) 10 ≡
    paste d at (emitted_line name argument) (n + length argument + line_marks)
line-written d name argument at n e h = rw (← e) (line-placed d name argument at (rw e h))
