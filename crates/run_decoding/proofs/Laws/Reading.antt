-- The instruction at a place of the code, as the actions from there on.
use Prim.Native.Nat.{ℕ, zero, suc, ◌+◌, ◌/◌, ◌≤◌, ◌<◌}
use native.Mathlib.Omega.{arith}
use mathlib.Core.Path.{◌≡◌, refl, ap, ◌∙◌}
use mathlib.Core.Bool.{Bool, true, false}
use mathlib.Core.List.{List, [], ◌∷◌}
use mathlib.Core.Option.{none, some}
use lib.Dec.{eqb}
use lib.ListN.{length, get_or, drop}
use lib.Seq.{drop-drop}
use borrow.Author.Tests.{eqb-true}
use Rattle.run_code_places.specs.declared.CodePlace.{CodePlace}
use Rattle.meaning.specs.Choice.{pick}
use Rattle.meaning.specs.Angles.{plus, minus}
use Rattle.meaning.specs.Instructions.{Action, go, select, out, out_c, out_v, begin_seq, use_seq, call, tail_call, unknown_action}
use Rattle.meaning.specs.Packing.{Words, number_in, first_in, second_in, third_in, length_of, operation_of, span_action, compute_of, emission_of}
use Rattle.meaning.specs.Packing.{unpack_actions, use_seq_number}
use Rattle.code_numbers.specs.declared.operations.Operation.TheVariants.{Plus, Minus}
use Rattle.run_decoding.specs.declared.CallKind.TheVariants.{Framed, Tail}
use Rattle.run_decoding.specs.declared.Instruction.{Instruction}
use Rattle.run_decoding.specs.declared.Write.TheVariants.{Out, OutC, OutV}
use Rattle.run_decoding.specs.declared.Instruction.TheVariants.{Go, Select, Write as Writes, BeginSeq, UseSeq, Call as Calls, Emit, Compute}
use Rattle.run_decoding.specs.declared.Instruction.TheVariants.{End, Unknown}
use Rattle.run_decoding.specs.Decoded.{call_in, computation_in, instruction_in, Numbered, WordTaken, actions_meant}
use Rattle.meaning.proofs.Laws.Remaining.{at_place, past_end}

-- the instruction of a word, by the twelve numbers in the order in which they are asked
abbrev instruction_by : ℕ → Bool → Bool → Bool → Bool → Bool → Bool → Bool → Bool → Bool → Bool → Bool → Bool → Instruction
instruction_by w b₁₅ b₁₄ b₅ b₆ b₇ b₈ b₉ b₁₀ b₁₁ b₁₂ b₁₃ b₂₁ =
    pick b₁₅ End
    (pick b₁₄ (Emit (first_in w))
    (pick b₅ (Go (record { 0 = w }))
    (pick b₆ (Select (record { 0 = w }))
    (pick b₇ (Writes Out)
    (pick b₈ (Writes (OutC (first_in w)))
    (pick b₉ (Writes (OutV (first_in w)))
    (pick b₁₀ BeginSeq
    (pick b₁₁ UseSeq
    (pick b₁₂ (Calls (call_in Framed w))
    (pick b₁₃ (Calls (call_in Tail w)) (pick b₂₁ (computation_in (first_in w)) Unknown)))))))))))

module _ (w : ℕ) (ws : Words) where
  abbrev Later : List Action
  Later = unpack_actions 0 ws

  computation-asked : (zero? one? : Bool) →
      compute_of (pick zero? (some plus) (pick one? (some minus) none)) ∷ Later ≡
      actions_meant (pick zero? (Compute Plus) (pick one? (Compute Minus) Unknown)) ws
  computation-asked true one? = refl
  computation-asked false true = refl
  computation-asked false false = refl

  -- by the same numbers
  asked : (b₁₅ b₁₄ b₅ b₆ b₇ b₈ b₉ b₁₀ b₁₁ b₁₂ b₁₃ b₂₁ : Bool) →
      pick b₁₅ []
      (pick b₁₄ (emission_of (first_in w) ws ∷ unpack_actions (first_in w) ws)
      (pick b₅ (span_action go (length_of (first_in w)) (second_in w) (third_in w))
      (pick b₆ (span_action select (length_of (first_in w)) (second_in w) (third_in w))
      (pick b₇ out
      (pick b₈ (out_c (first_in w))
      (pick b₉ (out_v (first_in w))
      (pick b₁₀ begin_seq
      (pick b₁₁ use_seq
      (pick b₁₂ (call (w / 256))
      (pick b₁₃ (tail_call (w / 256)) (pick b₂₁ (compute_of (operation_of (first_in w))) unknown_action)))))))))
      ∷ Later)) ≡
      actions_meant (instruction_by w b₁₅ b₁₄ b₅ b₆ b₇ b₈ b₉ b₁₀ b₁₁ b₁₂ b₁₃ b₂₁) ws
  asked true b₁₄ b₅ b₆ b₇ b₈ b₉ b₁₀ b₁₁ b₁₂ b₁₃ b₂₁ = refl
  asked false true b₅ b₆ b₇ b₈ b₉ b₁₀ b₁₁ b₁₂ b₁₃ b₂₁ = refl
  asked false false true b₆ b₇ b₈ b₉ b₁₀ b₁₁ b₁₂ b₁₃ b₂₁ = refl
  asked false false false true b₇ b₈ b₉ b₁₀ b₁₁ b₁₂ b₁₃ b₂₁ = refl
  asked false false false false true b₈ b₉ b₁₀ b₁₁ b₁₂ b₁₃ b₂₁ = refl
  asked false false false false false true b₉ b₁₀ b₁₁ b₁₂ b₁₃ b₂₁ = refl
  asked false false false false false false true b₁₀ b₁₁ b₁₂ b₁₃ b₂₁ = refl
  asked false false false false false false false true b₁₁ b₁₂ b₁₃ b₂₁ = refl
  asked false false false false false false false false true b₁₂ b₁₃ b₂₁ = refl
  asked false false false false false false false false false true b₁₃ b₂₁ = refl
  asked false false false false false false false false false false true b₂₁ = refl
  asked false false false false false false false false false false false true = computation-asked (eqb (first_in w) 0) (eqb (first_in w) 1)
  asked false false false false false false false false false false false false = refl

  meant : unpack_actions 0 (w ∷ ws) ≡ actions_meant (instruction_in w) ws
  unfolding unpack_actions
  meant =
      let n = number_in w in
      asked (eqb n 15) (eqb n 14) (eqb n 5) (eqb n 6) (eqb n 7) (eqb n 8) (eqb n 9) (eqb n 10) (eqb n 11) (eqb n 12) (eqb n 13) (eqb n 21)

-- only UseSeq's number gives UseSeq
module _ (w : ℕ) where
  computation-used : (zero? one? : Bool) {used? : Bool} → pick zero? (Compute Plus) (pick one? (Compute Minus) Unknown) ≡ UseSeq → used? ≡ true
  computation-used true one? e = let z : ◌≡◌ {A = ℕ} 0 1 = cc in absurd (omega arith)
  computation-used false true e = let z : ◌≡◌ {A = ℕ} 0 1 = cc in absurd (omega arith)
  computation-used false false e = let z : ◌≡◌ {A = ℕ} 0 1 = cc in absurd (omega arith)

  used : (b₁₅ b₁₄ b₅ b₆ b₇ b₈ b₉ b₁₀ b₁₁ b₁₂ b₁₃ b₂₁ : Bool) →
      instruction_by w b₁₅ b₁₄ b₅ b₆ b₇ b₈ b₉ b₁₀ b₁₁ b₁₂ b₁₃ b₂₁ ≡ UseSeq → b₁₁ ≡ true
  used true b₁₄ b₅ b₆ b₇ b₈ b₉ b₁₀ b₁₁ b₁₂ b₁₃ b₂₁ e = let z : ◌≡◌ {A = ℕ} 0 1 = cc in absurd (omega arith)
  used false true b₅ b₆ b₇ b₈ b₉ b₁₀ b₁₁ b₁₂ b₁₃ b₂₁ e = let z : ◌≡◌ {A = ℕ} 0 1 = cc in absurd (omega arith)
  used false false true b₆ b₇ b₈ b₉ b₁₀ b₁₁ b₁₂ b₁₃ b₂₁ e = let z : ◌≡◌ {A = ℕ} 0 1 = cc in absurd (omega arith)
  used false false false true b₇ b₈ b₉ b₁₀ b₁₁ b₁₂ b₁₃ b₂₁ e = let z : ◌≡◌ {A = ℕ} 0 1 = cc in absurd (omega arith)
  used false false false false true b₈ b₉ b₁₀ b₁₁ b₁₂ b₁₃ b₂₁ e = let z : ◌≡◌ {A = ℕ} 0 1 = cc in absurd (omega arith)
  used false false false false false true b₉ b₁₀ b₁₁ b₁₂ b₁₃ b₂₁ e = let z : ◌≡◌ {A = ℕ} 0 1 = cc in absurd (omega arith)
  used false false false false false false true b₁₀ b₁₁ b₁₂ b₁₃ b₂₁ e = let z : ◌≡◌ {A = ℕ} 0 1 = cc in absurd (omega arith)
  used false false false false false false false true b₁₁ b₁₂ b₁₃ b₂₁ e = let z : ◌≡◌ {A = ℕ} 0 1 = cc in absurd (omega arith)
  used false false false false false false false false true b₁₂ b₁₃ b₂₁ e = refl
  used false false false false false false false false false true b₁₃ b₂₁ e = let z : ◌≡◌ {A = ℕ} 0 1 = cc in absurd (omega arith)
  used false false false false false false false false false false true b₂₁ e = let z : ◌≡◌ {A = ℕ} 0 1 = cc in absurd (omega arith)
  used false false false false false false false false false false false true e = computation-used (eqb (first_in w) 0) (eqb (first_in w) 1) e
  used false false false false false false false false false false false false e = let z : ◌≡◌ {A = ℕ} 0 1 = cc in absurd (omega arith)

pub use-numbered : (words : Words) (at : ℕ) → at < length words → instruction_in (get_or words at 0) ≡ UseSeq → Numbered words at use_seq_number
use-numbered words at h e =
    let w = get_or words at 0 in
    let n = number_in w in
    record {
      within = h;
      number = eqb-true n 11
          (used w (eqb n 15) (eqb n 14) (eqb n 5) (eqb n 6) (eqb n 7) (eqb n 8) (eqb n 9) (eqb n 10) (eqb n 11) (eqb n 12) (eqb n 13) (eqb n 21) e);
    }

-- the actions from a place of the code on
pub actions-at : (words : Words) (at : ℕ) (i : Instruction) → i ≡ instruction_in (get_or words at 0) → at < length words →
    unpack_actions 0 (drop at words) ≡ actions_meant i (drop (at + 1) words)
actions-at words at i e h = rw (at_place words at h, e) (meant (get_or words at 0) (drop (at + 1) words))

-- a word that is found, as the actions from its place on
pub found-means : {words : Words} {at n w : ℕ} {next : CodePlace} → WordTaken words at n w next → (i : Instruction) → i ≡ instruction_in w →
    unpack_actions 0 (drop at words) ≡ actions_meant i (drop (at + 1) words)
found-means {words} {at} t i e = actions-at words at i (e ∙ ap instruction_in t.word) t.numbered.within

pub found_number : {words : Words} {at n w : ℕ} {next : CodePlace} → WordTaken words at n w next → number_in w ≡ n
found_number t = ap number_in t.word ∙ t.numbered.number

pub actions-none : (words : Words) (at : ℕ) → length words ≤ at → unpack_actions 0 (drop at words) ≡ unknown_action ∷ []
unfolding unpack_actions
actions-none words at h = rw (past_end words at h)

skipped : (n : ℕ) (ws : Words) → unpack_actions n ws ≡ unpack_actions 0 (drop n ws)
unfolding unpack_actions
skipped zero [] = refl
skipped (suc n) [] = refl
skipped zero (w ∷ ws) = refl
skipped (suc n) (w ∷ ws) = skipped n ws

-- the actions after an emission come after its name
pub actions-named : (words : Words) (at n : ℕ) → unpack_actions n (drop at words) ≡ unpack_actions 0 (drop (at + n) words)
actions-named words at n = rw (skipped n (drop at words), drop-drop n at words)
