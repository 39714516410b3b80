-- A sentence's tests fit a field exactly where its pattern and conditions do, at the same place and with the same bindings: for no, one and two
-- e-variables.
use Prim.Native.Nat.{ℕ, suc, ◌+◌, ◌-◌, ◌≤◌, ◌<◌}
use native.Mathlib.Decide.{dec_le}
use native.Mathlib.Omega.{arith}
use mathlib.Core.Path.{◌≡◌, refl, sym, ◌∙◌, ap}
use mathlib.Core.Bool.{Bool, true, false}
use mathlib.Core.List.{List, [], ◌∷◌, ◌++◌, map, append-nil, append_assoc}
use mathlib.Core.Option.{Option, none, some}
use lib.Dec.{T, leb, leb→le, eqb, eqb→eq}
use lib.ListN.{length, take, drop, length-append, length-drop, take-append-drop}
use lib.Seq.{length-take-le}
use borrow.Author.Tests.{eqb-false, leb-false}
use Rattle.meaning.specs.Choice.{Bytes, Name, Named, pick, guard, same_bytes}
use Rattle.meaning.specs.Tree.{Letter, part, Condition}
use Rattle.meaning.specs.Rewriting.{Bindings, unbound, hold, shortest, with_symbols, with_part, match}
use Rattle.meaning.specs.Allowed.{where_some, all_of_pattern}
use Rattle.meaning.specs.Instructions.{Site, from_start, from_place}
use Rattle.meaning.specs.Matching.{Checked, where_passed, check_all, search, places_of, first_place, find_place, stored_values}
use Rattle.meaning.specs.Translation.{Shape, fixed, open₁, open₂, metric_of, Tested, tested_template, before_end, untested, tested_shape}
use Rattle.meaning.specs.Translation.{condition_test}
use Rattle.meaning.specs.Translation.{tests_of, at_start}
use Rattle.meaning.proofs.Laws.Choosing.{names_in}
use Rattle.meaning.proofs.Laws.Choosing.{true-passed, where-same, where-none, where-strict}
use Rattle.meaning_agreeing.proofs.Agreement.Standing.{coming_at, Standing}
use Rattle.meaning_agreeing.proofs.Agreement.Templates.{template_match, Known, nothing, Tried, fails, passes, next, check_all-append}
use Rattle.meaning_agreeing.proofs.Agreement.Templates.{template-tested, conditions-tested}
use Rattle.meaning_agreeing.proofs.Agreement.Patterns.{templated, elements_of, letters-templated, letters-part, match-short, match-exact}
use Rattle.meaning_agreeing.proofs.Agreement.Patterns.{match-template, shortest-none, shortest-one}
use Rattle.meaning_agreeing.proofs.Agreement.Places.{Trial, unfit, fit, Agreeing, neither, only, search-shortest}
use Rattle.meaning_agreeing.proofs.Agreement.Layout.{bindings, taking, locals, Laid, laid-fixed, laid-open₁, laid-open₂}
use Rattle.meaning_agreeing.proofs.Agreement.Cells.{start-shows, middle-shows, end-shows}
use Rattle.meaning_agreeing.proofs.Agreement.Stored.{values_of, stores_at, stored-known, valued}

-- what a fitting sentence hands to its expression
pub record Fitting (shape : Shape) (sites : List (Named Site)) (field : Bytes) (at : ℕ) (bound : Bindings) : Type 0 where
  pub values : Bytes
  pub stored : stored_values (stores_at sites) field at ≡ some values
  pub standing : Standing shape sites bound (locals (length field) at values)
  pub whole : standing.remaining at_start ≡ field

-- what is known and how the parts lie is all of it
fitting : {shape : Shape} {sites : List (Named Site)} {field : Bytes} {at : ℕ} {known : List (Named ℕ)} {parts : List (Named Bytes)} →
    Known field at sites known → Laid shape field at parts → Fitting shape sites field at (bindings known parts)
fitting {field} {at} {known} {parts} k laid =
    record {
      values = values_of known;
      stored = stored-known field at k;
      standing =
          record {
            remaining = laid.remaining;
            to_end = laid.to_end (values_of known);
            to_part = laid.to_part (values_of known);
            values = valued field at k (length field) parts;
          };
      whole = laid.whole;
    }

-- conditions asked of what is known and of the parts
abbrev pub holding : List Condition → List (Named Bytes) → List (Named ℕ) → Option (List (Named ℕ))
holding cs parts known = guard (hold cs (bindings known parts)) (some known)

abbrev pub bound_to : List (Named Bytes) → List (Named ℕ) → Option Bindings
bound_to parts known = some (bindings known parts)

-- THE MATCHER

-- a template at the end of the text, then the conditions
match-last : (ls : List Letter) (cs : List Condition) (bytes : Bytes) (bound : Bindings) → length bytes ≡ length ls →
    match (templated ls []) cs bytes bound ≡
    where_some (where_some (template_match ls bytes bound.symbols) (holding cs bound.parts)) (bound_to bound.parts)
unfolding match
match-last ls cs bytes bound size = rw append-nil at (match-template ls [] cs bytes [] bound size) ∙ held (template_match ls bytes bound.symbols)
  where
    asked : (known : List (Named ℕ)) (q : Bool) → guard q (some (with_symbols bound known)) ≡ where_some (guard q (some known)) (bound_to bound.parts)
    asked known true = refl
    asked known false = refl

    held : (o : Option (List (Named ℕ))) → where_some o (λ known. guard (hold cs (with_symbols bound known)) (some (with_symbols bound known))) ≡
        where_some (where_some o (holding cs bound.parts)) (bound_to bound.parts)
    held none = refl
    held (some known) = asked known (hold cs (with_symbols bound known))

-- a template, an e-variable's part, and the template at the end of the text
match-part : (ls : List Letter) (x : Name) (t : List Letter) (cs : List Condition) (bytes p ts : Bytes) (bound : Bindings) → length bytes ≡
    length ls → length ts ≡ length t →
    match (templated ls (part x ∷ templated t [])) cs (bytes ++ (p ++ ts)) bound ≡
    where_some (where_some (where_some (template_match ls bytes bound.symbols) (template_match t ts)) (holding cs (bound.parts ++ taking x p ∷ [])))
    (bound_to (bound.parts ++ taking x p ∷ []))
unfolding match
match-part ls x t cs bytes p ts bound size size_tail =
    match-template ls (part x ∷ templated t []) cs bytes (p ++ ts) bound size ∙
    where-same (template_match ls bytes bound.symbols) _
    (λ known.
    where_some (where_some (template_match t ts known) (holding cs (bound.parts ++ taking x p ∷ []))) (bound_to (bound.parts ++ taking x p ∷ [])))
    (λ known.
    shortest-one (λ piece rest. match (templated t []) cs rest (with_part (with_symbols bound known) x piece)) [] p ts
    (λ piece rest other. match-exact t cs rest (with_part (with_symbols bound known) x piece) (omega arith)) ∙
    match-last t cs ts (with_part (with_symbols bound known) x p) size_tail) ∙
    where-strict (λ o. where_some (where_some o (holding cs (bound.parts ++ taking x p ∷ []))) (bound_to (bound.parts ++ taking x p ∷ [])))
    (template_match ls bytes bound.symbols) (template_match t ts) refl

-- THE TESTS

-- a sentence's tests are its templates' and then its conditions'
tests-parted : (field : Bytes) (at : ℕ) (cs : List Condition) (shape : Shape) (d : Tested) →
    check_all (tests_of shape d cs) field at ≡ where_passed (check_all d.tests field at) (check_all (map (condition_test shape d.sites) cs) field at)
tests-parted field at cs shape d = check_all-append field at d.tests (map (condition_test shape d.sites) cs)

-- all of them against templates and conditions
all_tested : (field : Bytes) (at : ℕ) (cs : List Condition) (shape : Shape) (parts : List (Named Bytes)) (d : Tested) {o : Option (List (Named ℕ))} →
    Laid shape field at parts → T (all_of_pattern (names_in d.sites) (coming_at shape at_start) cs) →
    Tried field at d.sites (check_all d.tests field at) o →
    Tried field at d.sites (check_all (tests_of shape d cs) field at) (where_some o (holding cs parts))
all_tested field at cs shape parts d laid m tried =
    rw (tests-parted field at cs shape d)
    (next field at tried (λ known k. conditions-tested field at shape d.sites (coming_at shape at_start) parts laid.between cs m known k))

-- one place, its parts being laid there
trial : {shape : Shape} {sites : List (Named Site)} {field : Bytes} {at : ℕ} {parts : List (Named Bytes)} {c : Checked}
    {o : Option (List (Named ℕ))} → Laid shape field at parts →
    Tried field at sites c o → Trial (Fitting shape sites field) at c (where_some o (bound_to parts))
trial laid fails = unfit
trial laid (passes k) = fit (fitting k laid)

-- CUTTING A FIELD

-- a text's front and end of given lengths, and what lies between them
record Apart (front back : ℕ) (text : Bytes) : Type 0 where
  first : Bytes
  middle : Bytes
  last : Bytes
  whole : text ≡ first ++ (middle ++ last)
  first_size : length first ≡ front
  last_size : length last ≡ back

set_apart : (front back : ℕ) (text : Bytes) → front + back ≤ length text → Apart front back text
set_apart front back text h =
    record {
      first = take front text;
      middle = take at rest;
      last = drop at rest;
      whole = sym (take-append-drop front text) ∙ ap (λ (r : Bytes). take front text ++ r) (sym (take-append-drop at rest));
      first_size = length-take-le front text (omega arith);
      last_size = rw (length-drop at rest, length-drop front text) (omega arith);
    }
  where
    rest : Bytes
    rest = drop front text

    at : ℕ
    at = length rest - back

-- SENTENCES

-- two e-variables have two names
abbrev pub NamedApart : Shape → Type 0
NamedApart (fixed t) = Unit {0}
NamedApart (open₁ h x t) = Unit {0}
NamedApart (open₂ h x m y t) = (z : Name) → same_bytes z x ≡ true → same_bytes z y ≡ true → ⊥

module _ (cs : List Condition) where
  -- a condition names only s-variables of the templates and e-variables between them
  abbrev pub Asks : Shape → Type 0
  Asks shape = T (all_of_pattern (names_in (tested_shape shape).sites) (coming_at shape at_start) cs)

  -- the machine's place for the middle template and its tests, against the matcher
  abbrev pub Agrees : Shape → Bytes → Type 0
  Agrees shape field =
      Agreeing (Fitting shape (tested_shape shape).sites field) (find_place (metric_of shape) (tests_of shape (tested_shape shape) cs) field)
      (match (elements_of shape) cs field unbound)

  agrees-fixed : (t : List Letter) (field : Bytes) → Asks (fixed t) → Agrees (fixed t) field
  unfolding search check_all
  agrees-fixed t field asks = sized (eqb (length field) (length t)) refl
    where
      tests : ℕ → Checked
      tests = check_all (tests_of (fixed t) (tested_shape (fixed t)) cs) field

      sized : (q : Bool) → eqb (length field) (length t) ≡ q →
          Agreeing (Fitting (fixed t) (tested_shape (fixed t)).sites field) (search tests (pick q 1 0) 0) (match (templated t []) cs field unbound)
      sized true e =
          let size : length field ≡ length t = eqb→eq (length field) (length t) (true-passed _ e) in
          rw (match-last t cs field unbound size)
          (only _ tests 0
          (trial (laid-fixed t field)
          (all_tested field 0 cs (fixed t) [] (tested_shape (fixed t)) (laid-fixed t field) asks
          (template-tested field 0 from_start 0 t field untested size (start-shows field [] field [] 0 (rw append-nil) refl) (passes nothing)))))
      sized false e = rw (match-exact t cs field unbound (eqb-false (length field) (length t) e)) neither

  -- the field is the templates' bytes round the part
  fits-open₁ : (h : List Letter) (x : Name) (t : List Letter) (hs p ts : Bytes) → length hs ≡ length h → length ts ≡ length t → Asks (open₁ h x t) →
      Agreeing (Fitting (open₁ h x t) (tested_shape (open₁ h x t)).sites (hs ++ (p ++ ts)))
      (search (check_all (tests_of (open₁ h x t) (tested_shape (open₁ h x t)) cs) (hs ++ (p ++ ts))) 1 0)
      (match (elements_of (open₁ h x t)) cs (hs ++ (p ++ ts)) unbound)
  unfolding check_all
  fits-open₁ h x t hs p ts size_head size_tail asks =
      rw (match-part h x t cs hs p ts unbound size_head size_tail)
      (only _ (check_all (tests_of (open₁ h x t) (tested_shape (open₁ h x t)) cs) field) 0
      (trial laid
      (all_tested field 0 cs (open₁ h x t) (taking x p ∷ []) (tested_shape (open₁ h x t)) laid asks
      (template-tested field 0 (before_end (length t)) 0 t ts (tested_template from_start 0 h untested) size_tail
      (end-shows field (hs ++ p) ts [] 0 (simp (append_assoc, append-nil)) (length t) size_tail refl)
      (template-tested field 0 from_start 0 h hs untested size_head (start-shows field [] hs (p ++ ts) 0 refl refl) (passes nothing))))))
    where
      field : Bytes
      field = hs ++ (p ++ ts)

      laid : Laid (open₁ h x t) field 0 (taking x p ∷ [])
      laid = laid-open₁ h x t hs p ts size_head size_tail

  agrees-open₁ : (h : List Letter) (x : Name) (t : List Letter) (field : Bytes) → Asks (open₁ h x t) → Agrees (open₁ h x t) field
  unfolding search
  agrees-open₁ h x t field asks = sized (leb (length h + length t) (length field)) refl
    where
      sized : (q : Bool) → leb (length h + length t) (length field) ≡ q →
          Agreeing (Fitting (open₁ h x t) (tested_shape (open₁ h x t)).sites field)
          (search (check_all (tests_of (open₁ h x t) (tested_shape (open₁ h x t)) cs) field) (pick q 1 0) 0)
          (match (elements_of (open₁ h x t)) cs field unbound)
      sized true e =
          let a = set_apart (length h) (length t) field (leb→le _ _ (true-passed _ e)) in
          rw a.whole (fits-open₁ h x t a.first a.middle a.last a.first_size a.last_size asks)
      sized false e = rw (match-short (elements_of (open₁ h x t)) cs field unbound (rw letters-part (leb-false _ _ e))) neither

  module _ (h : List Letter) (x : Name) (m : List Letter) (y : Name) (t : List Letter) (apart : NamedApart (open₂ h x m y t))
      (asks : Asks (open₂ h x m y t)) where
    abbrev shape₂ : Shape
    shape₂ = open₂ h x m y t

    tests₂ : Bytes → ℕ → Checked
    tests₂ field at = check_all (tests_of shape₂ (tested_shape shape₂) cs) field at

    -- the head template, then the middle template with what follows it, at one place
    tried₂ : Bytes → Bytes → Bytes → Option Bindings
    tried₂ hs p rest = where_some (template_match h hs []) (λ known. match (templated m (part y ∷ templated t [])) cs rest
        (with_part (bindings known []) x p))

    -- one place: the field is the templates' bytes round the parts
    place-open₂ : (hs p ms r ts : Bytes) → length hs ≡ length h → length ms ≡ length m → length ts ≡ length t →
        Trial (Fitting shape₂ (tested_shape shape₂).sites (hs ++ (p ++ (ms ++ (r ++ ts))))) (length hs + length p)
        (tests₂ (hs ++ (p ++ (ms ++ (r ++ ts)))) (length hs + length p)) (tried₂ hs p (ms ++ (r ++ ts)))
    unfolding tests₂ tried₂ check_all
    place-open₂ hs p ms r ts size_head size_middle size_tail =
        rw (
          where-same (template_match h hs []) _ _ (λ known. match-part m y t cs ms r ts (with_part (bindings known []) x p) size_middle size_tail),
          where-strict
              (λ o.
              where_some (where_some (where_some o (template_match t ts)) (holding cs (taking x p ∷ taking y r ∷ [])))
              (bound_to (taking x p ∷ taking y r ∷ [])))
              (template_match h hs []) (template_match m ms) refl,
        )
        (trial laid
        (all_tested field at cs shape₂ (taking x p ∷ taking y r ∷ []) (tested_shape shape₂) laid asks
        (template-tested field at (before_end (length t)) 0 t ts (tested_template from_place 0 m (tested_template from_start 0 h untested)) size_tail
        (end-shows field (hs ++ (p ++ (ms ++ r))) ts [] at (simp (append_assoc, append-nil)) (length t) size_tail refl)
        (template-tested field at from_place 0 m ms (tested_template from_start 0 h untested) size_middle
        (middle-shows field (hs ++ p) ms (r ++ ts) at (simp append_assoc) (rw length-append))
        (template-tested field at from_start 0 h hs untested size_head (start-shows field [] hs (p ++ (ms ++ (r ++ ts))) at refl refl)
        (passes nothing))))))
      where
        field : Bytes
        field = hs ++ (p ++ (ms ++ (r ++ ts)))

        at : ℕ
        at = length hs + length p

        laid : Laid shape₂ field at (taking x p ∷ taking y r ∷ [])
        laid = laid-open₂ h x m y t hs p ms r ts size_head size_middle size_tail apart

    -- the head template comes off before the search, or stands inside it
    match-open₂ : (hs rest : Bytes) → length hs ≡ length h → match (elements_of shape₂) cs (hs ++ rest) unbound ≡ shortest (tried₂ hs) [] rest
    unfolding match tried₂
    match-open₂ hs rest size = match-template h (part x ∷ templated m (part y ∷ templated t [])) cs hs rest unbound size ∙
        inside (template_match h hs [])
      where
        inside : (o : Option (List (Named ℕ))) →
            where_some o (λ known. shortest (λ p rest. match (templated m (part y ∷ templated t [])) cs rest (with_part (bindings known []) x p)) []
            rest) ≡
            shortest (λ p rest. where_some o (λ known. match (templated m (part y ∷ templated t [])) cs rest (with_part (bindings known []) x p))) []
            rest
        inside none = sym (shortest-none (λ p rest. none) (suc (length rest)) [] rest (omega arith) (λ p rest less. refl))
        inside (some known) = refl

    -- the search over the places is the search over the first part
    searched : (hs rest : Bytes) → length hs ≡ length h → Agrees shape₂ (hs ++ rest)
    unfolding tests₂ tried₂
    searched hs rest size =
        let count : places_of (metric_of shape₂) (length (hs ++ rest)) ≡ suc (length rest) - (length m + length t) = rw length-append (omega arith) in
        let start : length hs + 0 ≡ first_place (metric_of shape₂) = omega arith in
        rw (count, match-open₂ hs rest size)
        (rw start at (search-shortest (Fitting shape₂ (tested_shape shape₂).sites (hs ++ rest)) (tests₂ (hs ++ rest)) (tried₂ hs) (length hs)
        (length m + length t)
        rest each short [] rest refl))
      where
        each : (p back : Bytes) → p ++ back ≡ rest → length m + length t ≤ length back →
            Trial (Fitting shape₂ (tested_shape shape₂).sites (hs ++ rest)) (length hs + length p) (tests₂ (hs ++ rest) (length hs + length p))
            (tried₂ hs p back)
        each p back e enough =
            let a = set_apart (length m) (length t) back enough in
            rw (← e, a.whole) (place-open₂ hs p a.first a.middle a.last size a.first_size a.last_size)

        short : (p back : Bytes) → length back < length m + length t → tried₂ hs p back ≡ none
        short p back few = where-none (template_match h hs []) _
            (λ known. match-short (templated m (part y ∷ templated t [])) cs back (with_part (bindings known []) x p) (rw letters-part few))

    agrees-open₂ : (field : Bytes) → Agrees shape₂ field
    unfolding search
    agrees-open₂ field = sized (dec_le (length h) (length field))
      where
        sized : Dec (length h ≤ length field) → Agrees shape₂ field
        sized (yes enough) = rw (take-append-drop (length h) field) at
            (searched (take (length h) field) (drop (length h) field) (length-take-le (length h) field enough))
        sized (no few) =
            let nowhere : places_of (metric_of shape₂) (length field) ≡ 0 = omega arith in
            rw (nowhere, match-short (elements_of shape₂) cs field unbound (rw letters-templated (omega arith))) neither

  pub agrees : (shape : Shape) (field : Bytes) → NamedApart shape → Asks shape → Agrees shape field
  agrees (fixed t) field a asks = agrees-fixed t field asks
  agrees (open₁ h x t) field a asks = agrees-open₁ h x t field asks
  agrees (open₂ h x m y t) field a asks = agrees-open₂ h x m y t a asks field
