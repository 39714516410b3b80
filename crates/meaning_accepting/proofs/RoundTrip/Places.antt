-- Neither 01's rules nor the listing nor the translation look at the places of called names.
use Prim.Native.Nat.{ℕ, suc, ◌+◌, max}
use mathlib.Core.Path.{◌≡◌, refl, sym, ap, ap₂, ◌∙◌, fun_ext}
use mathlib.Core.Bool.{Bool, not}
use mathlib.Core.List.{List, [], ◌∷◌, ◌++◌, map}
use lib.ListN.{length-map}
use Rattle.meaning.specs.Choice.{Name, Named, pick, both, every, same_bytes}
use Rattle.meaning.specs.Tree.{Expression, end, then_character, then_symbol, then_part, then_call, Sentence, Function, Table, unplaced}
use Rattle.meaning.specs.Tree.{unplaced_sentence}
use Rattle.meaning.specs.Tree.{unplaced_function, unplaced_table}
use Rattle.meaning.specs.Names.{is_predicate, number_from, number_of, recover_prefix, recoverer_of}
use Rattle.meaning.specs.Allowed.{is_byte, member, spelled_name, symbols_of, parts_of, items_in, nesting, spelled_items, coming_after, where_some}
use Rattle.meaning.specs.Allowed.{coming_after_all, allowed_sentence, some_sentence, allowed_function, sentences_in, calls_known, names_of, allowed}
use Rattle.meaning.specs.Listing.{Quoted, unquoted, close_quote, quoted_character, after_character, symbol_text, part_text, expression_text}
use Rattle.meaning.specs.Listing.{sentences_text}
use Rattle.meaning.specs.Listing.{listing}
use Rattle.meaning.specs.Instructions.{Site, Action, go, select, out}
use Rattle.meaning.specs.Translation.{Shape, Stand, Level, outermost, in_argument, in_tail, is_end, in_tail_position, manner_of, level_in, left_for}
use Rattle.meaning.specs.Translation.{where_left, calling, item_actions, at_start, passage, passes_rest, shape_of, tested_shape, translated_sentences}
use Rattle.meaning.specs.Translation.{translated_function, translate}

-- THE LISTING

expression-text : (state : Quoted) (e : Expression) → expression_text state (unplaced e) ≡ expression_text state e
unfolding expression_text unplaced
expression-text state end = refl
expression-text state (then_character c e) = ap (λ z. quoted_character state c ++ z) (expression-text (after_character state c) e)
expression-text state (then_symbol x e) = ap (λ z. close_quote state ++ (symbol_text x ++ z)) (expression-text unquoted e)
expression-text state (then_part x e) = ap (λ z. close_quote state ++ (part_text x ++ z)) (expression-text unquoted e)
expression-text state (then_call place n a e) = rw (expression-text unquoted a, expression-text unquoted e)

sentences-text : (ss : List Sentence) → sentences_text (map unplaced_sentence ss) ≡ sentences_text ss
unfolding sentences_text
sentences-text [] = refl
sentences-text (s ∷ ss) = rw (expression-text unquoted s.expression, sentences-text ss)

pub listing-unplaced : (t : Table) → listing (unplaced_table t) ≡ listing t
unfolding listing
listing-unplaced [] = refl
listing-unplaced (f ∷ fs) = rw (sentences-text f.sentences, listing-unplaced fs)

-- 01'S RULES

items-unplaced : (e : Expression) → items_in (unplaced e) ≡ items_in e
unfolding items_in unplaced
items-unplaced end = refl
items-unplaced (then_character c e) = ap suc (items-unplaced e)
items-unplaced (then_symbol x e) = ap suc (items-unplaced e)
items-unplaced (then_part x e) = ap suc (items-unplaced e)
items-unplaced (then_call place n a e) = ap₂ (λ i j. suc (i + j)) (items-unplaced a) (items-unplaced e)

pub nesting-unplaced : (e : Expression) → nesting (unplaced e) ≡ nesting e
unfolding nesting unplaced
nesting-unplaced end = refl
nesting-unplaced (then_character c e) = nesting-unplaced e
nesting-unplaced (then_symbol x e) = nesting-unplaced e
nesting-unplaced (then_part x e) = nesting-unplaced e
nesting-unplaced (then_call place n a e) = ap₂ (λ i j. max (suc i) j) (nesting-unplaced a) (nesting-unplaced e)

spelled-unplaced : (symbols : List Name) (e : Expression) → spelled_items symbols (unplaced e) ≡ spelled_items symbols e
unfolding spelled_items unplaced
spelled-unplaced symbols end = refl
spelled-unplaced symbols (then_character c e) = ap (both (is_byte c)) (spelled-unplaced symbols e)
spelled-unplaced symbols (then_symbol x e) = ap (both (member x symbols)) (spelled-unplaced symbols e)
spelled-unplaced symbols (then_part x e) = spelled-unplaced symbols e
spelled-unplaced symbols (then_call place n a e) =
    ap₂ (λ i j. both (both (spelled_name n) (not (is_predicate n))) (both i j)) (spelled-unplaced symbols a) (spelled-unplaced symbols e)

coming-unplaced : (e : Expression) (coming : List Name) → coming_after_all (unplaced e) coming ≡ coming_after_all e coming
unfolding coming_after_all unplaced
coming-unplaced end coming = refl
coming-unplaced (then_character c e) coming = coming-unplaced e coming
coming-unplaced (then_symbol x e) coming = coming-unplaced e coming
coming-unplaced (then_part x e) coming = ap (where_some (coming_after x coming)) (fun_ext (coming-unplaced e))
coming-unplaced (then_call place n a e) coming = ap₂ where_some (coming-unplaced a coming) (fun_ext (coming-unplaced e))

sentence-unplaced : (s : Sentence) → allowed_sentence (unplaced_sentence s) ≡ allowed_sentence s
sentence-unplaced s =
    let p = s.pattern in
    let e = s.expression in
    rw (spelled-unplaced (symbols_of p) e, coming-unplaced e (parts_of p), items-unplaced e, nesting-unplaced e)

-- a test of every element, where the elements are changed in a way that the test doesn't see
every-unplaced : {A : Type 0} (change : A → A) (f g : A → Bool) → ((x : A) → f (change x) ≡ g x) → (xs : List A) → every f (map change xs) ≡
    every g xs
unfolding every
every-unplaced change f g same [] = refl
every-unplaced change f g same (x ∷ xs) = ap₂ both (same x) (every-unplaced change f g same xs)

some-unplaced : (ss : List Sentence) → some_sentence (map unplaced_sentence ss) ≡ some_sentence ss
some-unplaced [] = refl
some-unplaced (s ∷ ss) = refl

function-unplaced : (f : Function) → allowed_function (unplaced_function f) ≡ allowed_function f
function-unplaced f =
    rw (some-unplaced f.sentences, every-unplaced unplaced_sentence allowed_sentence allowed_sentence sentence-unplaced f.sentences)

names-unplaced : (t : Table) → names_of (unplaced_table t) ≡ names_of t
names-unplaced [] = refl
names-unplaced (f ∷ fs) = ap (λ z. f.name ∷ z) (names-unplaced fs)

count-unplaced : (t : Table) → sentences_in (unplaced_table t) ≡ sentences_in t
unfolding sentences_in
count-unplaced [] = refl
count-unplaced (f ∷ fs) = ap₂ (λ i j. i + j) (length-map f.sentences unplaced_sentence) (count-unplaced fs)

number-unplaced : (count : ℕ) (t : Table) (n : Name) → number_from count (unplaced_table t) n ≡ number_from count t n
unfolding number_from
number-unplaced count [] n = refl
number-unplaced count (f ∷ fs) n = ap (pick (same_bytes n f.name) (suc count)) (number-unplaced (suc count) fs n)

calls-unplaced : (t : Table) (e : Expression) → calls_known (unplaced_table t) (unplaced e) ≡ calls_known t e
unfolding calls_known unplaced
calls-unplaced t end = refl
calls-unplaced t (then_character c e) = calls-unplaced t e
calls-unplaced t (then_symbol x e) = calls-unplaced t e
calls-unplaced t (then_part x e) = calls-unplaced t e
calls-unplaced t (then_call place n a e) = rw (number-unplaced 0 t n, calls-unplaced t a, calls-unplaced t e)

pub allowed-unplaced : (t : Table) → allowed (unplaced_table t) ≡ allowed t
allowed-unplaced t =
    rw (
      every-unplaced unplaced_function allowed_function allowed_function function-unplaced t,
      names-unplaced t,
      length-map t unplaced_function,
      count-unplaced t,
      every-unplaced unplaced_function (λ f. every (λ s. calls_known (unplaced_table t) s.expression) f.sentences)
          (λ f. every (λ s. calls_known t s.expression) f.sentences)
          (λ f. every-unplaced unplaced_sentence (λ s. calls_known (unplaced_table t) s.expression) (λ s. calls_known t s.expression)
          (λ s. calls-unplaced t s.expression)
          f.sentences)
          t,
    )

-- THE TRANSLATION

end-unplaced : (e : Expression) → is_end (unplaced e) ≡ is_end e
unfolding unplaced
end-unplaced end = refl
end-unplaced (then_character c e) = refl
end-unplaced (then_symbol x e) = refl
end-unplaced (then_part x e) = refl
end-unplaced (then_call place n a e) = refl

last-unplaced : (level : Level) (e : Expression) → in_tail_position level (unplaced e) ≡ in_tail_position level e
last-unplaced outermost e = end-unplaced e
last-unplaced in_argument e = refl
last-unplaced (in_tail f) e = refl

left-unplaced : (shape : Shape) (level : Level) (x : Name) (e : Expression) → left_for shape level x (unplaced e) ≡ left_for shape level x e
left-unplaced shape outermost x e = refl
left-unplaced shape in_argument x e = refl
left-unplaced shape (in_tail f) x e = rw (end-unplaced e)

module _ (t : Table) (shape : Shape) (sites : List (Named Site)) where
  actions-unplaced : (level : Level) (e : Expression) (w : Stand) (rest : Stand → List Action) →
      item_actions (unplaced_table t) shape sites level (unplaced e) w rest ≡ item_actions t shape sites level e w rest
  unfolding item_actions unplaced
  actions-unplaced level end w rest = refl
  actions-unplaced level (then_character c e) w rest = rw (actions-unplaced level e w rest)
  actions-unplaced level (then_symbol x e) w rest = rw (actions-unplaced level e w rest)
  actions-unplaced level (then_part x e) w rest =
      let way = passage shape x w in
      ap₂ (λ f more. where_left f way (go way.gap ∷ select way.piece ∷ out ∷ more)) (left-unplaced shape level x e)
      (actions-unplaced level e way.after rest)
  actions-unplaced level (then_call place n a e) w rest =
      rw (
        last-unplaced level e,
        number-unplaced 0 t n,
        fun_ext (λ w₁. ap (calling shape (manner_of level e n) (number_of t n) n w₁) (actions-unplaced level e w₁ rest)),
        actions-unplaced (level_in (manner_of level e n) (number_of t n)) a w
            (λ w₁. calling shape (manner_of level e n) (number_of t n) n w₁ (item_actions t shape sites level e w₁ rest)),
      )

sentences-unplaced : (t : Table) (r : ℕ) (ss : List Sentence) →
    translated_sentences (unplaced_table t) r (map unplaced_sentence ss) ≡ translated_sentences t r ss
unfolding translated_sentences
sentences-unplaced t r [] = refl
sentences-unplaced t r (s ∷ ss) =
    let shape = shape_of s.pattern in
    rw (actions-unplaced t shape (tested_shape shape).sites outermost s.expression at_start (passes_rest shape), sentences-unplaced t r ss)

pub translate-unplaced : (t : Table) → translate (unplaced_table t) ≡ translate t
translate-unplaced t = functions-translated t
  where
    function-translated : (f : Function) → translated_function (unplaced_table t) (unplaced_function f) ≡ translated_function t f
    function-translated f = rw (number-unplaced 0 t (recover_prefix ++ f.name)) (sentences-unplaced t (recoverer_of t f.name) f.sentences)

    functions-translated : (fs : Table) → map (translated_function (unplaced_table t)) (unplaced_table fs) ≡ map (translated_function t) fs
    functions-translated [] = refl
    functions-translated (f ∷ fs) = ap₂ (λ y ys. y ∷ ys) (function-translated f) (functions-translated fs)

-- TREES THAT ARE EQUAL BUT FOR PLACES

-- what doesn't look at places gives the same for both
pub same-unplaced : {A : Type 0} (f : Table → A) → ((t : Table) → f (unplaced_table t) ≡ f t) → (t u : Table) → unplaced_table t ≡ unplaced_table u →
    f t ≡ f u
same-unplaced f blind t u e = sym (blind t) ∙ (ap f e ∙ blind u)
