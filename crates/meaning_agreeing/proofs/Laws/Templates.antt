-- A pattern's templates hold its letters in order; their tests and sites fit, and there is one of either for each letter.
use mathlib.Core.Path.{◌≡◌, refl, ap, sym, ◌∙◌}
use mathlib.Core.Bool.{Bool, true, false}
use mathlib.Core.List.{List, [], ◌∷◌, ◌++◌, map-append}
use mathlib.Core.Option.{Option, none, some}
use Prim.Native.Nat.{ℕ, suc, ◌+◌, ◌<◌, ◌≤◌}
use native.Mathlib.Omega.{arith}
use lib.Dec.{T, ltb→lt}
use lib.ListN.{length, length-append, length-map}
use Rattle.meaning.specs.Choice.{Name, Named, pick, lookup, same_bytes, every, is_some}
use Rattle.meaning.specs.Tree.{Letter, character, symbol, Element, letter, part}
use Rattle.meaning.specs.Allowed.{member, added, symbols_from, symbols_of, letters_in, spelled_element, max_letters}
use Rattle.meaning.specs.Instructions.{Site, from_start, from_place, look, compare}
use Rattle.meaning.specs.Translation.{Shape, fixed, open₁, open₂, with_letter, cut_at, shape_of, Tested, tested_symbol, tested_letter}
use Rattle.meaning.specs.Translation.{tested_template}
use Rattle.meaning.specs.Translation.{before_end, untested, tested_shape}
use Rattle.meaning.proofs.Laws.Choosing.{names_in, member-bound}
use Rattle.meaning.proofs.Laws.Passing.{every-head, every-tail}
use Rattle.meaning.proofs.Laws.Packable.{All, nil, cons, FitsSite, FitsTest, all_append}

-- THE LETTERS

unfoldable pub letters_of : List Element → List Letter
letters_of [] = []
letters_of (letter l ∷ es) = l ∷ letters_of es
letters_of (part x ∷ es) = letters_of es

abbrev pub shape_letters : Shape → List Letter
shape_letters (fixed t) = t
shape_letters (open₁ h x t) = h ++ t
shape_letters (open₂ h x m y t) = h ++ (m ++ t)

with-letter : (l : Letter) (s : Shape) → shape_letters (with_letter l s) ≡ l ∷ shape_letters s
with-letter l (fixed t) = refl
with-letter l (open₁ h x t) = refl
with-letter l (open₂ h x m y t) = refl

cut-at : (x : Name) (s : Shape) → shape_letters (cut_at x s) ≡ shape_letters s
cut-at x (fixed t) = refl
cut-at x (open₁ h y t) = refl
cut-at x (open₂ h y m z t) = refl

pub shape-letters : (es : List Element) → shape_letters (shape_of es) ≡ letters_of es
unfolding shape_of letters_of
shape-letters [] = refl
shape-letters (letter l ∷ es) = with-letter l (shape_of es) ∙ ap (λ (ls : List Letter). l ∷ ls) (shape-letters es)
shape-letters (part x ∷ es) = cut-at x (shape_of es) ∙ shape-letters es

pub letters-length : (es : List Element) → length (letters_of es) ≡ letters_in es
unfolding letters_of letters_in
letters-length [] = refl
letters-length (letter l ∷ es) = ap suc (letters-length es)
letters-length (part x ∷ es) = letters-length es

-- a character is a byte
abbrev pub FitsLetter : Letter → Type 0
FitsLetter (character c) = c < 256
FitsLetter (symbol x) = Unit {0}

fits-letter : (l : Letter) → T (spelled_element (letter l)) → FitsLetter l
fits-letter (character c) t = ltb→lt c 256 t
fits-letter (symbol x) t = tt

pub letters-fit : (es : List Element) → T (every spelled_element es) → All FitsLetter (letters_of es)
unfolding letters_of
letters-fit [] t = nil
letters-fit (letter l ∷ es) t = cons (fits-letter l (every-head spelled_element (letter l) es t))
    (letters-fit es (every-tail spelled_element (letter l) es t))
letters-fit (part x ∷ es) t = letters-fit es (every-tail spelled_element (part x) es t)

-- THE SYMBOLS

unfoldable pub symbols_in : List Name → List Letter → List Name
symbols_in known [] = known
symbols_in known (character c ∷ ls) = symbols_in known ls
symbols_in known (symbol x ∷ ls) = symbols_in (added x known) ls

symbols-in : (known : List Name) (es : List Element) → symbols_from known es ≡ symbols_in known (letters_of es)
unfolding symbols_from symbols_in letters_of
symbols-in known [] = refl
symbols-in known (letter (character c) ∷ es) = symbols-in known es
symbols-in known (letter (symbol x) ∷ es) = symbols-in (added x known) es
symbols-in known (part x ∷ es) = symbols-in known es

symbols-append : (known : List Name) (ls rs : List Letter) → symbols_in known (ls ++ rs) ≡ symbols_in (symbols_in known ls) rs
unfolding symbols_in
symbols-append known [] rs = refl
symbols-append known (character c ∷ ls) rs = symbols-append known ls rs
symbols-append known (symbol x ∷ ls) rs = symbols-append (added x known) ls rs

-- THE TESTS AND SITES

named_by : (o : Option Site) (known : Bool) (x : Name) (s : Site) (d : Tested) → is_some o ≡ known →
    names_in (tested_symbol o x s d).sites ≡ pick known (names_in d.sites) (names_in d.sites ++ x ∷ [])
named_by none known x s d h = rw (← h) (map-append (λ (y : Named Site). y.name) d.sites (record { name = x; value = s } ∷ []))
named_by (some first) known x s d h = rw (← h)

template-names : (at : ℕ → Site) (from : ℕ) (ls : List Letter) (d : Tested) → names_in (tested_template at from ls d).sites ≡
    symbols_in (names_in d.sites) ls
unfolding tested_template symbols_in
template-names at from [] d = refl
template-names at from (character c ∷ ls) d = template-names at (suc from) ls (tested_letter (character c) (at from) d)
template-names at from (symbol x ∷ ls) d =
    template-names at (suc from) ls (tested_letter (symbol x) (at from) d) ∙ ap (λ (known : List Name). symbols_in known ls)
    (named_by (lookup x d.sites) (member x (names_in d.sites)) x (at from) d (sym (member-bound x d.sites)))

shape-names : (s : Shape) → names_in (tested_shape s).sites ≡ symbols_in [] (shape_letters s)
shape-names (fixed t) = template-names from_start 0 t untested
shape-names (open₁ h x t) = simp (template-names, symbols-append)
shape-names (open₂ h x m y t) = simp (template-names, symbols-append)

-- as many sites as there are different s-variables
pub site-count : (es : List Element) → length (tested_shape (shape_of es)).sites ≡ length (symbols_of es)
site-count es =
    sym (length-map (tested_shape (shape_of es)).sites (λ x. x.name)) ∙ ap length (shape-names (shape_of es)) ∙
    rw (shape-letters es, symbols-in [] es)

pub record FitsTested (d : Tested) : Type 0 where
  pub each_test : All FitsTest d.tests
  pub each_site : All (λ s. FitsSite s.value) d.sites

-- where there is a site, it fits
abbrev pub FitsFound : Option Site → Type 0
FitsFound none = Unit {0}
FitsFound (some s) = FitsSite s

pick-fits : (same : Bool) (s : Site) (o : Option Site) → FitsSite s → FitsFound o → FitsFound (pick same (some s) o)
pick-fits true s o f g = f
pick-fits false s o f g = g

pub lookup-fits : (x : Name) {sites : List (Named Site)} → All (λ s. FitsSite s.value) sites → FitsFound (lookup x sites)
unfolding lookup
lookup-fits x nil = tt
lookup-fits x (cons {x = s} {xs = ss} f fs) = pick-fits (same_bytes x s.name) s.value (lookup x ss) f (lookup-fits x fs)

module _ (s : Site) (f : FitsSite s) (d : Tested) (fd : FitsTested d) where
  symbol-fits : (o : Option Site) (x : Name) → FitsFound o → FitsTested (tested_symbol o x s d)
  symbol-fits none x fo = record { each_test = fd.each_test; each_site = all_append fd.each_site (cons f nil) }
  symbol-fits (some first) x fo = record { each_test = all_append fd.each_test (cons (fo, f) nil); each_site = fd.each_site }

  letter-fits : (l : Letter) → FitsLetter l → FitsTested (tested_letter l s d)
  letter-fits (character c) fl = record { each_test = all_append fd.each_test (cons (f, fl) nil); each_site = fd.each_site }
  letter-fits (symbol x) fl = symbol-fits (lookup x d.sites) x (lookup-fits x fd.each_site)

template-fits : (at : ℕ → Site) (from : ℕ) {ls : List Letter} (d : Tested) → ((k : ℕ) → k < from + length ls → FitsSite (at k)) → All FitsLetter ls →
    FitsTested d → FitsTested (tested_template at from ls d)
unfolding tested_template
template-fits at from d h nil fd = fd
template-fits at from d h (cons {x = l} {xs = ls} fl fls) fd =
    template-fits at (suc from) (tested_letter l (at from) d) (λ k low. h k (omega arith)) fls
    (letter-fits (at from) (h from (omega arith)) d fd l fl)

untested-fits : FitsTested untested
untested-fits = record { each_test = nil; each_site = nil }

all_left : {P : Letter → Type 0} (ls rs : List Letter) → All P (ls ++ rs) → All P ls
all_left [] rs a = nil
all_left (l ∷ ls) rs (cons p a) = cons p (all_left ls rs a)

all_right : {P : Letter → Type 0} (ls rs : List Letter) → All P (ls ++ rs) → All P rs
all_right [] rs a = a
all_right (l ∷ ls) rs (cons p a) = all_right ls rs a

pub shape-fits : (s : Shape) → length (shape_letters s) ≤ max_letters → All FitsLetter (shape_letters s) → FitsTested (tested_shape s)
shape-fits (fixed t) low a = template-fits from_start 0 untested (λ k h. omega arith) a untested-fits
shape-fits (open₁ h x t) low a =
    let sum = length-append h t in
    template-fits (before_end (length t)) 0 _ (λ k l. omega arith) (all_right h t a)
    (template-fits from_start 0 untested (λ k l. omega arith) (all_left h t a) untested-fits)
shape-fits (open₂ h x m y t) low a =
    let sum = length-append h (m ++ t) in
    let sum₁ = length-append m t in
    template-fits (before_end (length t)) 0 _ (λ k l. omega arith) (all_right m t (all_right h (m ++ t) a))
    (template-fits from_place 0 _ (λ k l. omega arith) (all_left m t (all_right h (m ++ t) a))
    (template-fits from_start 0 untested (λ k l. omega arith) (all_left h (m ++ t) a) untested-fits))

-- one test or one site for each letter
abbrev pub weight : Tested → ℕ
weight d = length d.tests + length d.sites

symbol-weight : (o : Option Site) (x : Name) (s : Site) (d : Tested) → weight (tested_symbol o x s d) ≡ suc (weight d)
symbol-weight none x s d = omega (arith, length-append d.sites (record { name = x; value = s } ∷ []))
symbol-weight (some first) x s d = omega (arith, length-append d.tests (compare first s ∷ []))

letter-weight : (l : Letter) (s : Site) (d : Tested) → weight (tested_letter l s d) ≡ suc (weight d)
letter-weight (character c) s d = omega (arith, length-append d.tests (look s c ∷ []))
letter-weight (symbol x) s d = symbol-weight (lookup x d.sites) x s d

template-weight : (at : ℕ → Site) (from : ℕ) (ls : List Letter) (d : Tested) → weight (tested_template at from ls d) ≡ length ls + weight d
unfolding tested_template
template-weight at from [] d = omega arith
template-weight at from (l ∷ ls) d = omega (arith, template-weight at (suc from) ls (tested_letter l (at from) d), letter-weight l (at from) d)

pub shape-weight : (s : Shape) → weight (tested_shape s) ≡ length (shape_letters s)
shape-weight (fixed t) = omega (arith, template-weight from_start 0 t untested)
shape-weight (open₁ h x t) = simp (template-weight, length-append) (omega arith)
shape-weight (open₂ h x m y t) = simp (template-weight, length-append) (omega arith)
