-- Laws of names as lists of words: what the library's comparison and searches say of them.
use Rattle.std.proofs.Common.{◌≡◌, ℕ, zero, suc, ◌+◌, ◌-◌, ◌≤◌, ◌<◌, Bool, true, false, List, [], ◌∷◌, ◌++◌, length, take, drop, refl, sym, arith, ◌∙◌}
use Rattle.std.specs.Prelude.{Option, None, Some, MatchOption, MatchBool, is_some, nat_eq, ◌&&◌}
use Rattle.std.specs.Cmp.Lexicographic.{pointwise}
use Rattle.std.specs.List.{zip, AllWithin, HoldsAt}
use Rattle.std.proofs.lemmas.List.{length-drop}
use Rattle.std.proofs.Math.Seq.{take-length}
use borrow.Author.Tests.{eq-eqb, ne_eqb, lt-ltb}
use Rattle.meaning.specs.Choice.{Name, both, same_bytes, starts_with}
use Rattle.meaning.specs.Names.{is_built_in, recover_prefix, is_recovering}
use Rattle.meaning.specs.Allowed.{member}
use Rattle.tape_words.specs.Words.{head_name, head_names}
use Rattle.tape_words.specs.Finding.{place_number, number_among, is_known_among, recoverer_among}
use Rattle.tape_words.proofs.Laws.Names.{same_after, number-member}

and-both : (a b : Bool) → (a && b) ≡ both a b
and-both true b = refl
and-both false b = refl

pub pointwise-same : (x y : List ℕ) → pointwise nat_eq x y ≡ same_bytes x y
unfolding same_bytes
pointwise-same [] [] = refl
pointwise-same [] (y ∷ ys) = refl
pointwise-same (x ∷ xs) [] = refl
pointwise-same (x ∷ xs) (y ∷ ys) = rw (pointwise-same xs ys) (and-both (nat_eq x y) (same_bytes xs ys))

-- THE BEGINNING OF A NAME: by whether each word is the prefix's

abbrev pub Same : ℕ × ℕ → Type 0
Same q = q.0 ≡ q.1

abbrev pub Differs : ℕ × ℕ → Type 0
Differs q = q.0 ≡ q.1 → ⊥

begins : (p x : Name) → length p ≤ length x → AllWithin Same (zip p x) 0 (length (zip p x)) → true ≡ starts_with p x
unfolding starts_with
begins [] x h all = refl
begins (a ∷ p) [] h all = absurd (omega arith)
begins (a ∷ p) (b ∷ x) h all =
    let e : a ≡ b = all 0 (a, b) (omega arith) (omega arith) in
    rw (eq-eqb a b e) (begins p x (omega arith) (λ k d l m. all (suc k) d (omega arith) (omega arith)))

differs_at : (p x : Name) (k : ℕ) → k < length (zip p x) → HoldsAt Differs (zip p x) k → false ≡ starts_with p x
unfolding starts_with
differs_at [] x k l h = absurd (omega arith)
differs_at (a ∷ p) [] k l h = refl
differs_at (a ∷ p) (b ∷ x) zero l h = rw (ne_eqb a b (h (a, b))) refl
differs_at (a ∷ p) (b ∷ x) (suc k) l h = rw (← differs_at p x k (omega arith) h) (by (nat_eq a b))
  where
    by : (t : Bool) → false ≡ both t false
    by true = refl
    by false = refl

pub begins-by : (p x : Name) (r : Bool) → length p ≤ length x
    → MatchBool r (AllWithin Same (zip p x) 0 (length (zip p x))) ((k : ℕ) × (k < length (zip p x)) × HoldsAt Differs (zip p x) k)
    → r ≡ starts_with p x
begins-by p x true h all = begins p x h all
begins-by p x false h (k, l, d) = differs_at p x k l d

-- A prefix and then another name
pub prefixed-by : (p x y : Name) {starts same : Bool} → starts ≡ starts_with p y → starts ≡ true → same ≡ same_bytes x (take (length y - length p) (drop (length p) y))
    → same ≡ same_bytes (p ++ x) y
prefixed-by p x y s t e = rw (← length-drop (length p) y, take-length) at e ∙ sym (same_after p x y ∙ rw (← s, t))

pub not-prefixed : (p x y : Name) {starts : Bool} → starts ≡ starts_with p y → starts ≡ false → starts ≡ same_bytes (p ++ x) y
not-prefixed p x y s t = t ∙ sym (same_after p x y ∙ rw (← s, t))

-- THE SEARCH

module _ (ws : List ℕ) (n : Name) where
  abbrev pub Has : ℕ → Type 0
  Has h = same_bytes n (head_name ws h) ≡ true

  abbrev pub Lacks : ℕ → Type 0
  Lacks h = same_bytes n (head_name ws h) ≡ false

  nowhere : (k : ℕ) (heads : List ℕ) → AllWithin Lacks heads 0 (length heads) → number_among k (head_names ws heads) n ≡ 0
  unfolding number_among
  nowhere k [] all = refl
  nowhere k (h ∷ hs) all =
      let e : same_bytes n (head_name ws h) ≡ false = all 0 0 (omega arith) (omega arith) in
      rw e (nowhere (k + 1) hs (λ j d l m. all (suc j) d (omega arith) (omega arith)))

  first_at : (k : ℕ) (heads : List ℕ) (i : ℕ) → i < length heads → HoldsAt Has heads i → AllWithin Lacks heads 0 i
      → number_among k (head_names ws heads) n ≡ k + i + 1
  unfolding number_among
  first_at k [] i l has lacks = absurd (omega arith)
  first_at k (h ∷ hs) zero l has lacks = rw (has 0) (omega arith)
  first_at k (h ∷ hs) (suc i) l has lacks =
      let e : same_bytes n (head_name ws h) ≡ false = lacks 0 0 (omega arith) (omega arith) in
      let r = first_at (k + 1) hs i (omega arith) has (λ j d o m. lacks (suc j) d (omega arith) (omega arith)) in
      rw (e, r) (omega arith)

  pub found_number : (heads : List ℕ) (r : Option ℕ)
      → MatchOption r (AllWithin Lacks heads 0 (length heads)) (λ i. (i < length heads) × HoldsAt Has heads i × AllWithin Lacks heads 0 i)
      → place_number r ≡ number_among 0 (head_names ws heads) n
  found_number heads None all = sym (nowhere 0 heads all)
  found_number heads (Some i) (l, has, lacks) = omega (arith, first_at 0 heads i l has lacks)

-- by whether the name is one of a function that recovers
module _ (ms : List Name) (n : Name) {is : Bool} (e : is ≡ is_recovering n) where
  pub recovered-by : {r : ℕ} → is ≡ false → r ≡ number_among 0 ms (recover_prefix ++ n) → r ≡ recoverer_among ms n
  recovered-by f g = g ∙ rw (sym e ∙ f)

-- A CALL THAT CAN BE DONE: by the search for its name

module _ (ms : List Name) (n : Name) {is : Bool} (e : is ≡ is_built_in n) (o : is ≡ false) where
  pub known-declared : (r : Option ℕ) → place_number r ≡ number_among 0 ms n → {found : Bool} → found ≡ is_some r → found ≡ is_known_among ms n
  known-declared r f g = rw (← e, o) (g ∙ by r f)
    where
      by : (r : Option ℕ) → place_number r ≡ number_among 0 ms n → is_some r ≡ member n ms
      by None f = rw (← number-member 0 ms n, ← f) refl
      by (Some k) f = rw (← number-member 0 ms n, ← f) (sym (lt-ltb 0 (k + 1) (omega arith)))
