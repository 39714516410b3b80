-- Worked rows of flat tables: 02, T-06. Number, place and functions.
use Prim.Native.Nat.{ℕ}
use Prim.Native.String.{String}
use mathlib.Core.Path.{◌≡◌, refl}
use mathlib.Core.List.{List, [], ◌∷◌, map}
use Rattle.meaning.specs.Reading.{read}
use Rattle.meaning.specs.Flat.{nested_calls, nested_sentences, nested_in, leftmost}
use Rattle.meaning.specs.Entries.{answered, flat_answer}
use Rattle.meaning.proofs.Rows.Read.{bytes, hold}

pub record Row : Type 0 where
  pub text : String
  pub answer : List ℕ

abbrev row : String → ℕ → ℕ → ℕ → Row
row text number place functions = record { text = text; answer = answered number place functions }

abbrev rows : List Row
rows =
    row "" 0 0 0 ∷
    -- a tail call; `''` is no item after it
    row "F{=<F>}" 0 0 1 ∷
    row "F{=<F>''}" 0 0 1 ∷
    row "F { '0' e1 = <F e1>; e1 = e1 }" 0 0 1 ∷
    -- an item after the call, of each kind
    row "F{=<F>'x'}" 19 4 0 ∷
    row "F{s1=<F>s1}" 19 6 0 ∷
    row "F{e1=<F>e1}" 19 6 0 ∷
    row "F{=<F><EmitA>}" 19 4 0 ∷
    -- a call inside a call
    row "F{=<EmitA <F>>}" 19 11 0 ∷
    row "F{=<F <G>>}G{=}" 19 7 0 ∷
    -- the leftmost of two, the outer call's name before the inner's
    row "F{=<F <G>>'x'}G{=}" 19 4 0 ∷
    row "F{=<F><F><F>}" 19 4 0 ∷
    -- emissions anywhere
    row "F{=<EmitA 'x'><F <EmitB>>}" 0 0 1 ∷
    row "F{=<EmitA <EmitB>>'x'}" 0 0 1 ∷
    -- and angle calls
    row "F{e1=<DmAdd e1>'x'}" 0 0 1 ∷
    row "F{e1=<F <DmSub e1>>}" 0 0 1 ∷
    row "F{e1=<DmAdd <F e1>>}" 19 13 0 ∷
    -- every sentence of every function, whether a start reaches it or not
    row "F{'a'=;=<F><F>}" 19 9 0 ∷
    row "F{=}G{=<G><G>}" 19 8 0 ∷
    -- 1 to 8 come before
    row "F{=<F><H>}" 8 7 0 ∷
    row "F{=<F>'x'" 3 9 0 ∷
    -- a recovery is no call
    row "X{'a'=}RecoverX{e1=<X 'a'>}" 0 0 2 ∷ []

pub flatness-rows : map (λ (r : Row). flat_answer (read (bytes r.text))) rows ≡ map (λ (r : Row). r.answer) rows
unfolding hold nested_calls nested_sentences nested_in leftmost
flatness-rows = refl
