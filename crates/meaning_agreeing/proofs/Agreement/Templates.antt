-- A template's tests against matching its letters. 01 'What of shared facts?': "Tests relative to p, q and the middle place rest on one lemma over
-- the place". That lemma is `template-tested`: it asks only that the sites show the template's bytes one after the other.
use Prim.Native.Nat.{ℕ, suc, ◌+◌, ◌<◌}
use native.Mathlib.Nat.{add-zero, add-suc, suc-add}
use native.Mathlib.Omega.{arith}
use mathlib.Core.Path.{◌≡◌, refl}
use mathlib.Core.Bool.{Bool, true, false}
use mathlib.Core.List.{List, [], ◌∷◌, ◌++◌, map}
use mathlib.Core.Option.{Option, none, some}
use lib.Dec.{T, eqb}
use lib.ListN.{length}
use Rattle.meaning.specs.Choice.{Bytes, Name, Named, pick, both, guard, is_some, lookup, nth, every, same_bytes}
use Rattle.meaning.specs.Classes.{Class}
use Rattle.meaning.specs.Tree.{Letter, character, symbol, Subject, of_symbol, of_part, Condition}
use Rattle.meaning.specs.Rewriting.{take_symbol, holds_for, hold}
use Rattle.meaning.specs.Allowed.{where_some, member, of_pattern, all_of_pattern}
use Rattle.meaning.specs.Instructions.{Site, Test, look, compare}
use Rattle.meaning.specs.Matching.{cell_at, Checked, passed, failed, wrong, checked, check, where_passed, check_all}
use Rattle.meaning.specs.Translation.{Shape, Tested, tested_symbol, tested_letter, tested_template, bounds_of, subject_test, condition_test}
use Rattle.meaning.proofs.Laws.Choosing.{names_in, member-bound}
use Rattle.meaning_agreeing.proofs.Agreement.Cells.{Between}
use Rattle.meaning_agreeing.proofs.Agreement.Layout.{bindings}
use Rattle.meaning.proofs.Laws.Choosing.{both_left, both_right, where-last, where-again}

-- one letter against one byte, and a template's letters against as many bytes
abbrev pub letter_match : Letter → ℕ → List (Named ℕ) → Option (List (Named ℕ))
letter_match (character c) b known = guard (eqb c b) (some known)
letter_match (symbol x) b known = take_symbol x b known

unfoldable pub template_match : List Letter → Bytes → List (Named ℕ) → Option (List (Named ℕ))
template_match [] bytes known = some known
template_match (l ∷ ls) [] known = none
template_match (l ∷ ls) (b ∷ bytes) known = where_some (letter_match l b known) (template_match ls bytes)

module _ (field : Bytes) (place : ℕ) where
  -- each different s-variable has the byte at its site: the invariant of matching
  pub data Known : List (Named Site) → List (Named ℕ) → Type 0 where
    nothing : Known [] []
    knows : {x : Name} {s : Site} {b : ℕ} {sites : List (Named Site)} {known : List (Named ℕ)} → cell_at s field place ≡ some b → Known sites known →
        Known (record { name = x; value = s } ∷ sites) (record { name = x; value = b } ∷ known)

  -- tests so far against matching so far
  pub data Tried (sites : List (Named Site)) : Checked → Option (List (Named ℕ)) → Type 0 where
    fails : Tried sites failed none
    passes : {known : List (Named ℕ)} → Known sites known → Tried sites passed (some known)

  abbrev pub TriedAll : Tested → Option (List (Named ℕ)) → Type 0
  TriedAll d o = Tried d.sites (check_all d.tests field place) o

  -- what is tried next, where all passed so far
  pub next : {before after : List (Named Site)} {c d : Checked} {o : Option (List (Named ℕ))} {f : List (Named ℕ) → Option (List (Named ℕ))} →
      Tried before c o → ((known : List (Named ℕ)) → Known before known → Tried after d (f known)) → Tried after (where_passed c d) (where_some o f)
  next fails h = fails
  next (passes {known} k) h = h known k

  -- a variable's site and its byte, or neither
  pub data Looked : Option Site → Option ℕ → Type 0 where
    missing : Looked none none
    found : {s : Site} {b : ℕ} → cell_at s field place ≡ some b → Looked (some s) (some b)

  pub looked : {sites : List (Named Site)} {known : List (Named ℕ)} → Known sites known → (x : Name) → Looked (lookup x sites) (lookup x known)
  unfolding lookup
  looked nothing x = missing
  looked (knows {x = y} {s} {b} {sites} {known} e k) x = here (same_bytes x y) (looked k x)
    where
      here : (q : Bool) → Looked (lookup x sites) (lookup x known) → Looked (pick q (some s) (lookup x sites)) (pick q (some b) (lookup x known))
      here true later = found e
      here false later = later

  -- one variable more, at the end
  known_more : {sites : List (Named Site)} {known : List (Named ℕ)} (x : Name) (s : Site) (b : ℕ) → cell_at s field place ≡ some b →
      Known sites known →
      Known (sites ++ record { name = x; value = s } ∷ []) (known ++ record { name = x; value = b } ∷ [])
  known_more x s b e nothing = knows e nothing
  known_more x s b e (knows d k) = knows d (known_more x s b e k)

  pub check_all-append : (a b : List Test) → check_all (a ++ b) field place ≡ where_passed (check_all a field place) (check_all b field place)
  unfolding check_all
  check_all-append [] b = refl
  check_all-append (t ∷ a) b = rw (check_all-append a b) (again (check t field place))
    where
      again : (c : Checked) → where_passed c (where_passed (check_all a field place) (check_all b field place)) ≡
          where_passed (where_passed c (check_all a field place)) (check_all b field place)
      again passed = refl
      again failed = refl
      again wrong = refl

  no_test : (c : Checked) → where_passed c passed ≡ c
  no_test passed = refl
  no_test failed = refl
  no_test wrong = refl

  -- one test more
  check_all-last : (a : List Test) (t : Test) → check_all (a ++ t ∷ []) field place ≡ where_passed (check_all a field place) (check t field place)
  unfolding check_all
  check_all-last a t = rw (check_all-append a (t ∷ []), no_test (check t field place))

  -- a test that asks for a truth value
  truth : {sites : List (Named Site)} {known : List (Named ℕ)} (q : Bool) → Known sites known → Tried sites (checked q) (guard q (some known))
  truth true k = passes k
  truth false k = fails

  looked-none : {o : Option ℕ} → Looked none o → o ≡ none
  looked-none missing = refl

  -- the byte of a variable that stands at a site
  pub record Found (s : Site) (o : Option ℕ) : Type 0 where
    pub byte : ℕ
    pub there : o ≡ some byte
    pub cell : cell_at s field place ≡ some byte

  looked-some : {s : Site} {o : Option ℕ} → Looked (some s) o → Found s o
  looked-some (found {b} e) = record { byte = b; there = refl; cell = e }

  -- "Compare with the first equal s-variable" against "Equal s-variables take equal bytes"
  compared : {sites : List (Named Site)} {known : List (Named ℕ)} {first : Site} (x : Name) (s : Site) (b : ℕ) → cell_at s field place ≡ some b →
      Known sites known →
      Found first (lookup x known) →
      Tried sites (check (compare first s) field place) (take_symbol x b known)
  compared x s b cell k f = rw (f.there, f.cell, cell) (truth (eqb f.byte b) k)

  -- an s-variable's first letter is no test and a new site; each later one is a test and no new site
  symbol-tested : (x : Name) (s : Site) (b : ℕ) (d : Tested) {o : Option (List (Named ℕ))} (first : Option Site) → lookup x d.sites ≡ first →
      cell_at s field place ≡ some b →
      TriedAll d o →
      TriedAll (tested_symbol first x s d) (where_some o (take_symbol x b))
  symbol-tested x s b d none e cell tried =
      rw no_test at (next {after = (tested_symbol none x s d).sites} {d = passed} {f = take_symbol x b} tried
      (λ known k. rw (looked-none (rw e at (looked k x))) (passes (known_more x s b cell k))))
  symbol-tested x s b d (some r) e cell tried =
      rw (check_all-last d.tests (compare r s)) (next tried (λ known k. compared x s b cell k (looked-some (rw e at (looked k x)))))

  letter-tested : (l : Letter) (s : Site) (b : ℕ) (d : Tested) {o : Option (List (Named ℕ))} → cell_at s field place ≡ some b →
      TriedAll d o →
      TriedAll (tested_letter l s d) (where_some o (letter_match l b))
  letter-tested (character c) s b d cell tried =
      rw (check_all-last d.tests (look s c), cell) (next tried (λ known k. truth (eqb c b) k))
  letter-tested (symbol x) s b d cell tried = symbol-tested x s b d (lookup x d.sites) refl cell tried

  -- THE LEMMA OVER THE PLACE
  pub template-tested : (at : ℕ → Site) (from : ℕ) (ls : List Letter) (bytes : Bytes) (d : Tested) {o : Option (List (Named ℕ))} → length bytes ≡
      length ls →
      ((k : ℕ) → k < length bytes → cell_at (at (from + k)) field place ≡ nth k bytes) →
      TriedAll d o →
      TriedAll (tested_template at from ls d) (where_some o (template_match ls bytes))
  unfolding tested_template template_match nth
  template-tested at from [] bytes d {o} size cells tried = rw (where-last o) tried
  template-tested at from (l ∷ ls) [] d size cells tried = absurd (omega arith)
  template-tested at from (l ∷ ls) (b ∷ bytes) d {o} size cells tried =
      rw where-again at
      (template-tested at (suc from) ls bytes (tested_letter l (at from) d) (omega arith)
      (λ k h. rw (suc-add from k, ← (add-suc from k)) (cells (suc k) (omega arith)))
      (letter-tested l (at from) b d (rw add-zero at (cells 0 (omega arith))) tried))

  -- a variable that the templates name has a site, and its byte
  pub record Shown (sites : List (Named Site)) (known : List (Named ℕ)) (x : Name) : Type 0 where
    pub site : Site
    pub standing : lookup x sites ≡ some site
    pub found : Found site (lookup x known)

  pub shown : {sites : List (Named Site)} {known : List (Named ℕ)} → Known sites known → (x : Name) → T (member x (names_in sites)) →
      Shown sites known x
  shown {sites} {known} k x m = sited (lookup x sites) refl (rw (← (member-bound x sites)) m)
    where
      sited : (o : Option Site) → lookup x sites ≡ o → T (is_some o) → Shown sites known x
      sited none e t = absurd t
      sited (some s) e t = record { site = s; standing = e; found = looked-some (rw e at (looked k x)) }

  -- what conditions ask of the variables that they name: an s-variable's byte, and an e-variable's part, which lies between its sites
  module _ (shape : Shape) (sites : List (Named Site)) (names : List Name) (parts : List (Named Bytes))
      (lie : (x : Name) → T (member x names) → Between field place (bounds_of shape x) (lookup x parts)) where
    subject-tested : (class : Class) (expected : Bool) (v : Subject) → T (of_pattern (names_in sites) names v) →
        (known : List (Named ℕ)) → Known sites known →
        check (subject_test shape sites class expected v) field place ≡ checked (holds_for class expected (bindings known parts) v)
    subject-tested class expected (of_symbol x) m known k = let f = shown k x m in rw (f.standing, f.found.there, f.found.cell)
    subject-tested class expected (of_part x) m known k = let b = lie x m in rw (b.taken, b.cells)

    pub conditions-tested : (cs : List Condition) → T (all_of_pattern (names_in sites) names cs) → (known : List (Named ℕ)) → Known sites known →
        Tried sites (check_all (map (condition_test shape sites) cs) field place) (guard (hold cs (bindings known parts)) (some known))
    unfolding check_all hold every
    conditions-tested [] m known k = passes k
    conditions-tested (c ∷ cs) m known k =
        rw (subject-tested c.predicate c.expected c.subject (both_left (of_pattern (names_in sites) names c.subject) _ m) known k)
        (asks (holds_for c.predicate c.expected (bindings known parts) c.subject)
        (conditions-tested cs (both_right (of_pattern (names_in sites) names c.subject) _ m) known k))
      where
        asks : (q : Bool) →
            Tried sites (check_all (map (condition_test shape sites) cs) field place) (guard (hold cs (bindings known parts)) (some known)) →
            Tried sites (where_passed (checked q) (check_all (map (condition_test shape sites) cs) field place))
            (guard (both q (hold cs (bindings known parts))) (some known))
        asks true later = later
        asks false later = fails
