-- What the agreement takes from `allowed`, sentence by sentence, as plain facts.
use Prim.Native.Nat.{ℕ, zero, suc, ◌≤◌}
use mathlib.Core.Path.{◌≡◌, refl, ◌∙◌, ap}
use mathlib.Core.Bool.{true, not}
use mathlib.Core.List.{List, [], ◌∷◌, ◌++◌}
use mathlib.Core.Option.{Option, none, some}
use lib.Dec.{T, leb, leb→le}
use lib.ListN.{length}
use Rattle.meaning.specs.Choice.{Name, Named, is_some, every, same_bytes, lookup, nth}
use Rattle.meaning.specs.Tree.{Letter, character, symbol, Element, part, Sentence, Function, Table}
use Rattle.meaning.specs.Rewriting.{sentences_of, function_at}
use Rattle.meaning.specs.Allowed.{max_nesting, member, added, symbols_from, symbols_of, parts_of, all_of_pattern, distinct, nesting, spelled_items}
use Rattle.meaning.specs.Allowed.{coming_after_all, allowed_sentence, allowed_function, calls_known, allowed}
use Rattle.meaning.specs.Instructions.{Site, from_start, from_place}
use Rattle.meaning.specs.Translation.{Shape, fixed, open₁, open₂, shape_of, Tested, tested_symbol, tested_letter, tested_template, before_end}
use Rattle.meaning.specs.Translation.{untested}
use Rattle.meaning.specs.Translation.{tested_shape, at_start}
use Rattle.meaning.proofs.Laws.Choosing.{given-some, same_bytes_lem, names_in, names-append, member-bound, distinct-second}
use Rattle.meaning.proofs.Laws.Choosing.{both_left, both_right, both-pair, passed-true, true-passed, every-nth}
use Rattle.meaning_agreeing.proofs.Agreement.Standing.{coming_at}
use Rattle.meaning_agreeing.proofs.Agreement.Patterns.{templated, elements_of, parts-shape, elements-shape}
use Rattle.meaning_agreeing.proofs.Agreement.Fitting.{NamedApart, Asks}

-- where each different s-variable of a pattern stands first
abbrev pub sites_of : List Element → List (Named Site)
sites_of p = (tested_shape (shape_of p)).sites

-- of one sentence
pub record Allowable (table : Table) (s : Sentence) : Type 0 where
  pub pattern : elements_of (shape_of s.pattern) ≡ s.pattern
  pub apart : NamedApart (shape_of s.pattern)
  pub asks : Asks s.conditions (shape_of s.pattern)
  pub spelled : T (spelled_items (names_in (sites_of s.pattern)) s.expression)
  pub later : List Name
  pub coming : coming_after_all s.expression (coming_at (shape_of s.pattern) at_start) ≡ some later
  pub nested : nesting s.expression ≤ max_nesting
  pub calls : T (calls_known table s.expression)

-- of a function's sentences
pub data Allowables (table : Table) : List Sentence → Type 0 where
  no_sentence : Allowables table []
  sentences : {s : Sentence} {ss : List Sentence} → Allowable table s → Allowables table ss → Allowables table (s ∷ ss)

names-symbol : (x : Name) (s : Site) (d : Tested) (o : Option Site) → lookup x d.sites ≡ o → added x (names_in d.sites) ≡
    names_in (tested_symbol o x s d).sites
names-symbol x s d none e = rw (member-bound x d.sites, e, names-append)
names-symbol x s d (some r) e = rw (member-bound x d.sites, e)

-- the sites are named as the pattern names its s-variables
names-template : (at : ℕ → Site) (from : ℕ) (ls : List Letter) (d : Tested) (es : List Element) →
    symbols_from (names_in d.sites) (templated ls es) ≡ symbols_from (names_in (tested_template at from ls d).sites) es
unfolding symbols_from templated tested_template
names-template at from [] d es = refl
names-template at from (character c ∷ ls) d es = names-template at (suc from) ls (tested_letter (character c) (at from) d) es
names-template at from (symbol x ∷ ls) d es =
    ap (λ (known : List Name). symbols_from known (templated ls es)) (names-symbol x (at from) d (lookup x d.sites) refl) ∙
    (names-template at (suc from) ls (tested_letter (symbol x) (at from) d) es)

names-shape : (shape : Shape) → symbols_of (elements_of shape) ≡ names_in (tested_shape shape).sites
unfolding symbols_from
names-shape (fixed t) = names-template from_start 0 t untested []
names-shape (open₁ h x t) =
    names-template from_start 0 h untested (part x ∷ templated t []) ∙
    names-template (before_end (length t)) 0 t (tested_template from_start 0 h untested) []
names-shape (open₂ h x m y t) =
    names-template from_start 0 h untested (part x ∷ templated m (part y ∷ templated t [])) ∙
    names-template from_place 0 m (tested_template from_start 0 h untested) (part y ∷ templated t []) ∙
    names-template (before_end (length t)) 0 t (tested_template from_place 0 m (tested_template from_start 0 h untested)) []

-- the pattern's names being distinct, two e-variables are named apart
named-apart : (shape : Shape) → T (distinct (coming_at shape at_start)) → NamedApart shape
unfolding distinct member
named-apart (fixed t) d = tt
named-apart (open₁ h x t) d = tt
named-apart (open₂ h x m y t) d = λ z zx zy.
    let same : same_bytes x y ≡ true = rw (same_bytes_lem z x zx) at zy in
    rw same at (both_left (not (member x (y ∷ []))) (distinct (y ∷ [])) d)

allowable : (table : Table) (s : Sentence) → T (allowed_sentence s) → T (calls_known table s.expression) → Allowable table s
allowable table s a calls =
    let few : T (leb (length (parts_of s.pattern)) 2) = search (both_left, both_right) depth 8 in
    let names : T (distinct (symbols_of s.pattern ++ parts_of s.pattern)) = search (both_left, both_right) depth 8 in
    let conditions : T (all_of_pattern (symbols_of s.pattern) (parts_of s.pattern) s.conditions) = search (both_left, both_right) depth 8 in
    let items : T (spelled_items (symbols_of s.pattern) s.expression) = search (both_left, both_right) depth 8 in
    let order : T (is_some (coming_after_all s.expression (parts_of s.pattern))) = search (both_left, both_right) depth 8 in
    let deep : T (leb (nesting s.expression) max_nesting) = search (both_left, both_right) depth 8 in
    let p = elements-shape s.pattern (leb→le _ _ few) in
    let parts : parts_of s.pattern ≡ coming_at (shape_of s.pattern) at_start = rw p at (parts-shape (shape_of s.pattern)) in
    let symbols : symbols_of s.pattern ≡ names_in (sites_of s.pattern) = rw p at (names-shape (shape_of s.pattern)) in
    let l = given-some (coming_after_all s.expression (parts_of s.pattern)) (passed-true _ order) in
    record {
      pattern = p;
      apart = named-apart (shape_of s.pattern) (rw (← parts)
          (true-passed (distinct (parts_of s.pattern)) (distinct-second (symbols_of s.pattern) (parts_of s.pattern) (passed-true _ names))));
      asks = rw (← symbols, ← parts) conditions;
      spelled = rw (← symbols) items;
      later = l.value;
      coming = rw (← parts) l.is;
      nested = leb→le _ _ deep;
      calls = calls;
    }

allowables : (table : Table) (ss : List Sentence) → T (every allowed_sentence ss) → T (every (λ s. calls_known table s.expression) ss) →
    Allowables table ss
unfolding every
allowables table [] a calls = no_sentence
allowables table (s ∷ ss) a calls =
    let b = both-pair (allowed_sentence s) (every allowed_sentence ss) a in
    let c = both-pair (calls_known table s.expression) (every (λ s. calls_known table s.expression) ss) calls in
    sentences (allowable table s b.0 c.0) (allowables table ss b.1 c.1)

-- every function of an allowed table has only such sentences
pub facts : (table : Table) → T (allowed table) → (f : ℕ) → Allowables table (function_at table f)
facts table a zero = no_sentence
facts table a (suc i) = declared (nth i table) refl
  where
    declared : (o : Option Function) → nth i table ≡ o → Allowables table (sentences_of o)
    declared none e = no_sentence
    declared (some g) e =
        let functions : T (every allowed_function table) = search both_left in
        let calls : T (every (λ f. every (λ s. calls_known table s.expression) f.sentences) table) = search (both_left, both_right) depth 8 in
        let one = every-nth allowed_function table i g functions e in
        allowables table g.sentences (search (both_left, both_right) depth 8)
        (every-nth (λ f. every (λ s. calls_known table s.expression) f.sentences) table i g calls e)
