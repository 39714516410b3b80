-- How many bytes a character takes at most, with what stands before it.
use Prim.Native.Nat.{ℕ, ◌+◌, ◌/◌, ◌%◌, ◌≤◌}
use native.Mathlib.Omega.{arith}
use mathlib.Core.Bool.{Bool}
use mathlib.Core.List.{[], ◌∷◌, ◌++◌}
use lib.Dec.{eqb, ltb}
use lib.ListN.{length, length-append}
use Rattle.meaning.specs.Choice.{Bytes, pick}
use Rattle.meaning.specs.Listing.{Quoted, decimal, is_coded, is_escaped, character_text}
use Rattle.meaning.proofs.Laws.Choosing.{of_either}
use Rattle.list_strings.specs.declared.State.{State}
use Rattle.list_strings.specs.Steps.{is_quoted, is_start, gap, quoting}

-- of two texts the one that is picked is no longer than both may be
pub pick-size : (b : Bool) (xs ys : Bytes) {n : ℕ} → length xs ≤ n → length ys ≤ n → length (pick b xs ys) ≤ n
pick-size b xs ys {n} = of_either (λ l. length l ≤ n) b xs ys

pub gap-size : (s : State) → length (gap s) ≤ 1
gap-size s = pick-size (is_start s) [] (32 ∷ []) (omega arith) (omega arith)

pub quoting-size : (s : State) → length (quoting s) ≤ 2
quoting-size s = pick-size (is_quoted s) [] (gap s ++ 39 ∷ []) (omega arith) (rw length-append (omega (arith, gap-size s)))

pub decimal-size : (c : ℕ) → length (decimal c) ≤ 3
decimal-size c =
    let one : Bytes = (48 + c) ∷ [] in
    let two : Bytes = (48 + c / 10) ∷ (48 + c % 10) ∷ [] in
    let three : Bytes = (48 + c / 100) ∷ (48 + c / 10 % 10) ∷ (48 + c % 10) ∷ [] in
    pick-size (ltb c 10) one (pick (ltb c 100) two three) (omega arith) (pick-size (ltb c 100) two three (omega arith) (omega arith))

pub character-size : (q : Quoted) (c : ℕ) → length (character_text q c) ≤ 4
character-size q c =
    let bare : Bytes = pick (eqb c 10) (92 ∷ 110 ∷ []) (c ∷ []) in
    let tab : Bytes = pick (eqb c 9) (92 ∷ 116 ∷ []) bare in
    let small : length bare ≤ 2 = pick-size (eqb c 10) (92 ∷ 110 ∷ []) (c ∷ []) (omega arith) (omega arith) in
    let smaller : length tab ≤ 2 = pick-size (eqb c 9) (92 ∷ 116 ∷ []) bare (omega arith) small in
    let escaped : length (pick (is_escaped c) (92 ∷ c ∷ []) tab) ≤ 2 = pick-size (is_escaped c) (92 ∷ c ∷ []) tab (omega arith) smaller in
    pick-size (is_coded q c) (92 ∷ decimal c) (pick (is_escaped c) (92 ∷ c ∷ []) tab) (omega (arith, decimal-size c)) (omega arith)
