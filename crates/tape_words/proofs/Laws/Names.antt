-- Laws of names on the tape: the name after a word, a prefix and a name, and the search in a list of heads.
use Prim.Native.Nat.{ℕ, ◌+◌, ◌-◌, ◌≤◌, ◌<◌, min}
use native.Mathlib.Omega.{arith}
use mathlib.Core.Path.{◌≡◌, refl, sym, ap, ◌∙◌}
use mathlib.Core.Bool.{Bool, true, false}
use mathlib.Core.List.{List, [], ◌∷◌, ◌++◌}
use lib.Dec.{eqb, ltb}
use lib.ListN.{length, take, drop, get_or, drop_of_length-le}
use lib.Seq.{drop-drop, take-length}
use borrow.Author.Tests.{lt-ltb}
use Rattle.meaning.specs.Choice.{Name, pick, both, either, same_bytes, starts_with}
use Rattle.meaning.specs.Names.{is_built_in, recover_prefix, is_recovering}
use Rattle.meaning.specs.Allowed.{member}
use Rattle.tape_words.specs.Words.{carried, head_name, head_names}
use Rattle.tape_words.specs.Finding.{number_among, is_known_among, recoverer_among}
use native.Mathlib.Decide.{dec_le}
use native.Mathlib.Nat.{lt_of_not-le}
use Rattle.meaning.proofs.Laws.Remaining.{at_place}
use Rattle.tape_words.proofs.Laws.Lists.{reached, take_again, drop-again}

-- THE NAME AFTER A WORD

-- by where the word stands: on the tape or past its end
pub by_place : {A : Type 0} (ws : List ℕ) (p : ℕ) → (p < length ws → A) → (length ws ≤ p → A) → A
by_place ws p f g = elim (dec_le (length ws) p) [ yes h ↦ g h | no h ↦ f (lt_of_not-le h) ]

pub name-here : (ws : List ℕ) (p : ℕ) → p < length ws → head_name ws p ≡ take (carried (get_or ws p 0)) (drop (p + 1) ws)
name-here ws p h = rw (at_place ws p h)

pub name-nowhere : (ws : List ℕ) (p : ℕ) → length ws ≤ p → head_name ws p ≡ []
name-nowhere ws p h = rw (drop_of_length-le ws h)

pub name-part : (ws : List ℕ) (p : ℕ) → head_name ws p ≡ take (length (head_name ws p)) (drop (p + 1) ws)
name-part ws p =
    by_place ws p (λ h. rw (name-here ws p h) (sym (take_again (carried (get_or ws p 0)) (drop (p + 1) ws)))) (λ h. rw (name-nowhere ws p h))

name-length : (ws : List ℕ) (p : ℕ) → p < length ws → length (head_name ws p) ≡ min (carried (get_or ws p 0)) (length ws - (p + 1))
name-length ws p h = ap length (name-here ws p h) ∙ reached (carried (get_or ws p 0)) (p + 1) ws

pub name-fits-here : (ws : List ℕ) (p : ℕ) → p < length ws → p + 1 + length (head_name ws p) ≤ length ws
name-fits-here ws p h = omega (arith, name-length ws p h)

pub name-short : (ws : List ℕ) (p : ℕ) → length (head_name ws p) < 256
name-short ws p = by_place ws p (λ h. omega (arith, name-length ws p h)) (λ h. omega (arith, ap length (name-nowhere ws p h)))

-- the words after a name
pub name-skip : (ws : List ℕ) (p : ℕ) → p < length ws
    → drop (carried (get_or ws p 0)) (drop (p + 1) ws) ≡ drop (p + 1 + length (head_name ws p)) ws
name-skip ws p h =
    sym (drop-again (carried (get_or ws p 0)) (drop (p + 1) ws))
    ∙ drop-drop (length (take (carried (get_or ws p 0)) (drop (p + 1) ws))) (p + 1) ws
    ∙ rw (name-here ws p h)

-- A PREFIX AND A NAME

both-assoc : (a b c : Bool) → both a (both b c) ≡ both (both a b) c
both-assoc true b c = refl
both-assoc false b c = refl

pub same_after : (p x y : Name) → same_bytes (p ++ x) y ≡ both (starts_with p y) (same_bytes x (drop (length p) y))
unfolding same_bytes starts_with
same_after [] x y = refl
same_after (a ∷ p) x [] = refl
same_after (a ∷ p) x (b ∷ y) = rw (same_after p x y) (both-assoc (eqb a b) (starts_with p y) (same_bytes x (drop (length p) y)))

-- A CALL THAT CAN BE DONE

pub number-member : (count : ℕ) (ms : List Name) (n : Name) → ltb 0 (number_among count ms n) ≡ member n ms
unfolding number_among member
number-member count [] n = refl
number-member count (m ∷ ms) n = go (same_bytes n m) (number-member (count + 1) ms n)
  where
    go : (b : Bool) → ltb 0 (number_among (count + 1) ms n) ≡ member n ms
        → ltb 0 (pick b (count + 1) (number_among (count + 1) ms n)) ≡ either b (member n ms)
    go true e = lt-ltb 0 (count + 1) (omega arith)
    go false e = e

module _ (ms : List Name) (n : Name) {is : Bool} (e : is ≡ is_built_in n) where
  pub known-built-in : is ≡ true → true ≡ is_known_among ms n
  known-built-in h = rw (← e, h)

  pub known-declared : is ≡ false → {r : ℕ} → r ≡ number_among 0 ms n → ltb 0 r ≡ is_known_among ms n
  known-declared h f = rw (← e, h, f) (number-member 0 ms n)

-- THE FUNCTION THAT RECOVERS

module _ (ws heads : List ℕ) (n : Name) {is : Bool} (e : is ≡ is_recovering n) where
  pub recoverer-none : is ≡ true → 0 ≡ recoverer_among (head_names ws heads) n
  recoverer-none f = rw (sym e ∙ f)

  pub recoverer-found : {r : ℕ} → is ≡ false → r ≡ number_among 0 (head_names ws (take (length heads) heads)) (recover_prefix ++ n)
      → r ≡ recoverer_among (head_names ws heads) n
  recoverer-found f g = g ∙ rw (take-length heads, sym e ∙ f)
