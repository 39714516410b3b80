-- From the tree to instructions: 01 'Machine', "A sentence becomes: its tests (Look, Compare with the first equal
-- s-variable, Predicate, by pattern then condition order); Store of each different s-variable; then the expression item
-- by item: OutC, OutV, or Go to an e-variable and Out of it. A call is BeginSeq, argument, UseSeq (moves the argument
-- from out to just below p), Select, Call. At the end Go passes the rest of the field. If the last item outermost is a
-- declared call, that Go comes before UseSeq and the call takes the caller's frame".
use Rattle.std.specs.Prelude.{ℕ, suc, ◌+◌, ◌-◌, Bool, true, false, List, [], ◌∷◌, ◌++◌, map, length}
use Rattle.std.proofs.Math.Option.{Option, none, some}
use Rattle.meaning.specs.Choice.{Name, pick, both, guard, Named, lookup, same_bytes}
use Rattle.meaning.specs.Tree.{Letter, character, symbol, Element, letter, part, Subject, of_symbol, of_part}
use Rattle.meaning.specs.Tree.{Condition, Expression, end, then_character, then_symbol, then_part, then_call}
use Rattle.meaning.specs.Tree.{Sentence, Function, Table}
use Rattle.meaning.specs.Angles.{Operation}
use Rattle.meaning.specs.Classes.{Class}
use Rattle.meaning.specs.Names.{Calling, as_emission, as_angles, as_function, calling_of, number_of, recoverer_of}
use Rattle.meaning.specs.Instructions.{Site, from_start, from_end, from_place, Test, look, compare, predicate}
use Rattle.meaning.specs.Instructions.{predicate_part, Store, store, Length, null, whole, left, right, Span}
use Rattle.meaning.specs.Instructions.{Action, go, select, out, out_c, out_v, begin_seq, use_seq, call, tail_call}
use Rattle.meaning.specs.Instructions.{emission, compute, Metric, exactly, ends, middle, Sentences, no_more}
use Rattle.meaning.specs.Instructions.{sentence, Code}

-- THE TEMPLATES

-- a pattern as its templates round no, one or two e-variables
pub data Shape : Type 0 where
  fixed : List Letter → Shape
  open₁ : List Letter → Name → List Letter → Shape
  open₂ : List Letter → Name → List Letter → Name → List Letter → Shape

abbrev pub with_letter : Letter → Shape → Shape
with_letter l (fixed t) = fixed (l ∷ t)
with_letter l (open₁ h x t) = open₁ (l ∷ h) x t
with_letter l (open₂ h x m y t) = open₂ (l ∷ h) x m y t

-- a third e-variable is never allowed: it is passed over
abbrev pub cut_at : Name → Shape → Shape
cut_at x (fixed t) = open₁ [] x t
cut_at x (open₁ m y t) = open₂ [] x m y t
cut_at x (open₂ h y m z t) = open₂ h y m z t

unfoldable pub shape_of : List Element → Shape
shape_of [] = fixed []
shape_of (letter l ∷ es) = with_letter l (shape_of es)
shape_of (part x ∷ es) = cut_at x (shape_of es)

abbrev pub metric_of : Shape → Metric
metric_of (fixed t) = exactly (length t)
metric_of (open₁ h x t) = ends (length h) (length t)
metric_of (open₂ h x m y t) = middle (length h) (length m) (length t)

-- THE TESTS

-- the tests of letters so far, and where each different s-variable stands first
pub record Tested : Type 0 where
  pub tests : List Test
  pub sites : List (Named Site)

abbrev pub tested_symbol : Option Site → Name → Site → Tested → Tested
tested_symbol none x s d = record { tests = d.tests; sites = d.sites ++ record { name = x; value = s } ∷ [] }
tested_symbol (some first) x s d = record { tests = d.tests ++ compare first s ∷ []; sites = d.sites }

abbrev pub tested_letter : Letter → Site → Tested → Tested
tested_letter (character c) s d = record { tests = d.tests ++ look s c ∷ []; sites = d.sites }
tested_letter (symbol x) s d = tested_symbol (lookup x d.sites) x s d

-- a template's letters, the first at `from`, each next one a cell further
unfoldable pub tested_template : (ℕ → Site) → ℕ → List Letter → Tested → Tested
tested_template at from [] d = d
tested_template at from (l ∷ ls) d = tested_template at (suc from) ls (tested_letter l (at from) d)

-- "offsets from q go from minus the end template's length to -1"
abbrev pub before_end : ℕ → ℕ → Site
before_end template k = from_end (template - k)

abbrev pub untested : Tested
untested = record { tests = []; sites = [] }

abbrev pub tested_shape : Shape → Tested
tested_shape (fixed t) = tested_template from_start 0 t untested
tested_shape (open₁ h x t) = tested_template (before_end (length t)) 0 t (tested_template from_start 0 h untested)
tested_shape (open₂ h x m y t) =
    tested_template (before_end (length t)) 0 t (tested_template from_place 0 m (tested_template from_start 0 h untested))

-- a condition's variable always stands in an allowed pattern
abbrev pub site_or : Option Site → Site
site_or none = from_start 0
site_or (some s) = s

-- the site where an e-variable's part begins, and the one where what follows it begins
pub record Bounds : Type 0 where
  pub from : Site
  pub to : Site

abbrev pub from_to : Site → Site → Bounds
from_to from to = record { from = from; to = to }

-- only an e-variable of the pattern is ever asked for
abbrev pub bounds_of : Shape → Name → Bounds
bounds_of (fixed t) x = from_to (from_start 0) (from_start 0)
bounds_of (open₁ h y t) x = from_to (from_start (length h)) (from_end (length t))
bounds_of (open₂ h y m z t) x =
    pick (same_bytes x y) (from_to (from_start (length h)) (from_place 0))
    (from_to (from_place (length m)) (from_end (length t)))

abbrev pub part_test : Bounds → Class → Bool → Test
part_test b class expected = predicate_part b.from b.to class expected

abbrev pub subject_test : Shape → List (Named Site) → Class → Bool → Subject → Test
subject_test shape sites class expected (of_symbol x) = predicate (site_or (lookup x sites)) class expected
subject_test shape sites class expected (of_part x) = part_test (bounds_of shape x) class expected

abbrev pub condition_test : Shape → List (Named Site) → Condition → Test
condition_test shape sites c = subject_test shape sites c.predicate c.expected c.subject

abbrev pub tests_of : Shape → Tested → List Condition → List Test
tests_of shape d cs = d.tests ++ map (condition_test shape d.sites) cs

abbrev pub stores_of : Tested → List Store
stores_of d = map (λ s. store s.value) d.sites

-- THE EXPRESSION

-- the number of an s-variable's stored value, counted on from `from`
unfoldable pub value_from : ℕ → Name → List (Named Site) → ℕ
value_from from x [] = 0
value_from from x (s ∷ ss) = let later = value_from (suc from) x ss in pick (same_bytes x s.name) from later

abbrev pub value_number : List (Named Site) → Name → ℕ
value_number sites x = value_from 0 x sites

-- where p stands: at the field's start, or just after its first or second e-variable
pub data Stand : Type 0 where
  at_start after_first after_second : Stand

abbrev pub span : Length → ℕ → ℕ → Span
span r add back = record { register = r; add = add; back = back }

abbrev pub nowhere : Span
nowhere = span null 0 0

-- from where p stands to an e-variable, the e-variable itself, and where p stands after it
pub record Passage : Type 0 where
  pub gap : Span
  pub piece : Span
  pub after : Stand

-- only an e-variable that may still come is ever asked for
abbrev pub passage_one : List Letter → List Letter → Passage
passage_one h t =
    record { gap = span null (length h) 0; piece = span whole 0 (length h + length t); after = after_first }

abbrev pub passage_first : List Letter → Passage
passage_first h = record { gap = span null (length h) 0; piece = span left 0 (length h); after = after_first }

abbrev pub gap_to_second : List Letter → Stand → Span
gap_to_second m at_start = span left (length m) 0
gap_to_second m after_first = span null (length m) 0
gap_to_second m after_second = nowhere

abbrev pub passage_second : List Letter → List Letter → Stand → Passage
passage_second m t w =
    record { gap = gap_to_second m w; piece = span right 0 (length m + length t); after = after_second }

abbrev pub passage : Shape → Name → Stand → Passage
passage (fixed t) x w = record { gap = nowhere; piece = nowhere; after = w }
passage (open₁ h y t) x w = passage_one h t
passage (open₂ h y m z t) x w = pick (same_bytes x y) (passage_first h) (passage_second m t w)

-- the rest of the field from where p stands
abbrev pub rest_of : Shape → Stand → Span
rest_of (fixed t) w = span whole 0 0
rest_of (open₁ h y t) at_start = span whole 0 0
rest_of (open₁ h y t) after_first = span null (length t) 0
rest_of (open₁ h y t) after_second = nowhere
rest_of (open₂ h y m z t) at_start = span whole 0 0
rest_of (open₂ h y m z t) after_first = span right 0 0
rest_of (open₂ h y m z t) after_second = span null (length t) 0

-- how a call is done: as an emission, as an angle call, as a tail call, or in a frame of its own
pub data Manner : Type 0 where
  emits : Manner
  computes : Operation → Manner
  replaces nests : Manner

-- where an expression stands: it is a sentence's, or a call's argument, or the argument of a tail call of a function
pub data Level : Type 0 where
  outermost in_argument : Level
  in_tail : ℕ → Level

abbrev pub is_end : Expression → Bool
is_end end = true
is_end (then_character c e) = false
is_end (then_symbol x e) = false
is_end (then_part x e) = false
is_end (then_call place n a e) = false

-- "the last item outermost": nothing comes after it
abbrev pub in_tail_position : Level → Expression → Bool
in_tail_position outermost e = is_end e
in_tail_position in_argument e = false
in_tail_position (in_tail f) e = false

abbrev pub manner_as : Calling → Bool → Manner
manner_as as_emission last = emits
manner_as (as_angles op) last = computes op
manner_as as_function last = pick last replaces nests

abbrev pub manner_of : Level → Expression → Name → Manner
manner_of level after n = manner_as (calling_of n) (in_tail_position level after)

-- a call's argument
abbrev pub level_in : Manner → ℕ → Level
level_in emits number = in_argument
level_in (computes op) number = in_argument
level_in replaces number = in_tail number
level_in nests number = in_argument

-- 02, T-07: "Where a tail call's argument ends with an e-variable that also ends the pattern, that part stays on in"

abbrev pub is_none : List Letter → Bool
is_none [] = true
is_none (l ∷ ls) = false

-- the e-variable is the pattern's last, and no template comes after it
abbrev pub ends_pattern : Shape → Name → Bool
ends_pattern (fixed t) x = false
ends_pattern (open₁ h y t) x = is_none t
ends_pattern (open₂ h y m z t) x = pick (same_bytes x y) false (is_none t)

-- the function whose tail call leaves an e-variable on in, `after` being what follows the e-variable in the argument
abbrev pub left_for : Shape → Level → Name → Expression → Option ℕ
left_for shape outermost x after = none
left_for shape in_argument x after = none
left_for shape (in_tail f) x after = guard (both (is_end after) (ends_pattern shape x)) (some f)

-- "Only the items before it go to out, and UseSeq puts them just below it"
abbrev pub where_left : Option ℕ → Passage → List Action → List Action
where_left none way moving = moving
where_left (some f) way moving = go way.gap ∷ use_seq ∷ select way.piece ∷ tail_call f ∷ []

abbrev pub argument_ready : List Action → List Action
argument_ready more = use_seq ∷ select nowhere ∷ more

-- what follows a call's argument
abbrev pub calling : Shape → Manner → ℕ → Name → Stand → List Action → List Action
calling shape emits number n w more = argument_ready (emission n ∷ more)
calling shape (computes op) number n w more = argument_ready (compute op ∷ more)
calling shape replaces number n w more = go (rest_of shape w) ∷ argument_ready (tail_call number ∷ [])
calling shape nests number n w more = argument_ready (call number ∷ more)

module _ (table : Table) (shape : Shape) (sites : List (Named Site)) where
  -- an expression's instructions from where p stands, followed by what comes after it
  unfoldable pub item_actions : Level → Expression → Stand → (Stand → List Action) → List Action
  item_actions level end w rest = rest w
  item_actions level (then_character c e) w rest = out_c c ∷ item_actions level e w rest
  item_actions level (then_symbol x e) w rest = out_v (value_number sites x) ∷ item_actions level e w rest
  item_actions level (then_part x e) w rest =
      let way = passage shape x w in
      let moving = go way.gap ∷ select way.piece ∷ out ∷ item_actions level e way.after rest in
      where_left (left_for shape level x e) way moving
  item_actions level (then_call place n a e) w rest =
      begin_seq ∷
      item_actions (level_in (manner_of level e n) (number_of table n)) a w
      (λ w₁. let more = item_actions level e w₁ rest in calling shape (manner_of level e n) (number_of table n) n w₁ more)

abbrev pub passes_rest : Shape → Stand → List Action
passes_rest shape w = go (rest_of shape w) ∷ []

abbrev pub actions_of : Table → Shape → List (Named Site) → Expression → List Action
actions_of table shape sites e = item_actions table shape sites outermost e at_start (passes_rest shape)

-- SENTENCES, FUNCTIONS, THE TABLE

abbrev pub translated_sentence : Table → Sentence → Shape → Tested → Sentences → Sentences
translated_sentence table s shape tested more =
    sentence (metric_of shape) (tests_of shape tested s.conditions) (stores_of tested)
    (actions_of table shape tested.sites s.expression) more

-- a function's sentences, and the number of the function that recovers it
unfoldable pub translated_sentences : Table → ℕ → List Sentence → Sentences
translated_sentences table r [] = no_more r
translated_sentences table r (s ∷ ss) =
    translated_sentence table s (shape_of s.pattern) (tested_shape (shape_of s.pattern))
    (translated_sentences table r ss)

abbrev pub translated_function : Table → Function → Sentences
translated_function table f = translated_sentences table (recoverer_of table f.name) f.sentences

abbrev pub translate : Table → Code
translate table = map (translated_function table) table
