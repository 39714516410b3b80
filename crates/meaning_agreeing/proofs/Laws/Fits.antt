-- The matcher against what fitting means: what it finds fits; where it finds nothing, nothing fits; and of all that fit, what it finds has the
-- shortest first part.
use Prim.Native.Nat.{ℕ, suc, ◌≤◌}
use native.Mathlib.Omega.{arith}
use mathlib.Core.Path.{◌≡◌, refl, ap, ◌∙◌}
use mathlib.Core.Bool.{Bool, true, false, not}
use mathlib.Core.List.{List, [], ◌∷◌, ◌++◌, append-nil, append_assoc}
use mathlib.Core.Option.{Option, none, some}
use borrow.Author.Tests.{leb-true, eqb-true, eq-eqb, not-true}
use lib.Dec.{eqb, leb}
use lib.ListN.{length}
use Rattle.meaning.specs.Choice.{Bytes, Name, pick, or_else, is_some, every, Named, same_bytes, lookup}
use Rattle.meaning.specs.Classes.{Class, in_class}
use Rattle.meaning.specs.Tree.{Letter, character, symbol, Element, letter, part, Subject, of_symbol, of_part, Condition}
use Rattle.meaning.specs.Rewriting.{Bindings, unbound, agreed, take_symbol, asked_of, holds_for, hold, shortest, with_symbols, with_part, match_rest}
use Rattle.meaning.specs.Rewriting.{match}
use Rattle.meaning.specs.Rewriting.{part_bytes}
use Rattle.meaning.specs.Fits.{one_byte, stands_for, joined, filled, Fits}
use Rattle.meaning.specs.Allowed.{member, added, symbols_from, symbols_of, parts_of, parted, distinct, spelled_element, allowed_pattern, of_pattern}
use Rattle.meaning.specs.Allowed.{all_of_pattern, allowed_conditions}
use Rattle.meaning.proofs.Laws.Choosing.{Given, no-cons, not-both, is_false, either_second, some-none, both-parts, guard-some, same-itself}
use Rattle.meaning.proofs.Laws.Choosing.{same_bytes_lem, lookup-append, lookup-one, names_in, names-append, member-bound, distinct-second}
use Rattle.meaning_agreeing.proofs.Laws.Cuts.{Cut, shortest-cut, shortest-given}

pub tail-equal : {A : Type 0} {x y : A} {xs ys : List A} → ◌≡◌ {A = List A} (x ∷ xs) (y ∷ ys) → xs ≡ ys
tail-equal h = cc

pub nil-length : {n : ℕ} → 0 ≡ suc n → ⊥
nil-length h = omega arith

-- what is bound stays bound
abbrev Extends : {A : Type 0} → List (Named A) → List (Named A) → Type 0
Extends {A} known later = (x : Name) (v : A) → lookup x known ≡ some v → lookup x later ≡ some v

extends-append : {A : Type 0} (known more : List (Named A)) → Extends known (known ++ more)
extends-append known more x v h = rw (lookup-append x known more, h)

-- a name that was not bound is found behind
append-fresh : {A : Type 0} (known : List (Named A)) (x : Name) (v : A) → lookup x known ≡ none →
    lookup x (known ++ record { name = x; value = v } ∷ []) ≡ some v
append-fresh known x v h = rw (lookup-append, h) (lookup-one x v)

-- WHAT AN S-VARIABLE TAKES

record Took (x : Name) (b : ℕ) (known later : List (Named ℕ)) : Type 0 where
  bound : lookup x later ≡ some b
  keeps : Extends known later
  names : names_in later ≡ added x (names_in known)

took : (x : Name) (b : ℕ) (known later : List (Named ℕ)) (o : Option ℕ) → lookup x known ≡ o → agreed o x b known ≡ some later → Took x b known later
took x b known later none e h =
    let same : later ≡ known ++ record { name = x; value = b } ∷ [] = cc in
    rw same
    (record {
      bound = append-fresh known x b e;
      keeps = extends-append known (record { name = x; value = b } ∷ []);
      names = rw (member-bound x known, e) (names-append known (record { name = x; value = b }));
    })
took x b known later (some c) e h =
    let t = guard-some (eqb c b) (some known) h in
    let same : known ≡ later = cc t.1 in
    rw (← same)
    (record {
      bound = cc (eqb-true c b t.0);
      keeps = λ y v h. h;
      names = rw (member-bound x known, e);
    })

-- WHAT IS FOUND FITS

-- names that are not bound yet
abbrev Fresh : {A : Type 0} → List Name → List (Named A) → Type 0
Fresh names known = (x : Name) → member x names ≡ true → lookup x known ≡ none

record Found (pattern : List Element) (conditions : List Condition) (text : Bytes) (bound later : Bindings) : Type 0 where
  fits : Fits pattern conditions text later
  symbols : Extends bound.symbols later.symbols
  parts : Extends bound.parts later.parts

fresh-after : (x : Name) (piece : Bytes) (names : List Name) (known : List (Named Bytes)) → member x names ≡ false → Fresh (x ∷ names) known →
    Fresh names (known ++ record { name = x; value = piece } ∷ [])
unfolding lookup member
fresh-after x piece names known apart fresh y h = rw (lookup-append, fresh y (either_second (same_bytes y x) h), differs)
  where
    differs : same_bytes y x ≡ false
    differs = is_false (same_bytes y x) (λ same. let e = same_bytes_lem y x same in not-both h (rw e apart))

-- one element more before what fits
fits-step : (e : Element) (a : Bytes) (p : List Element) (cs : List Condition) (text : Bytes) (bound : Bindings) → stands_for bound e ≡ some a →
    Fits p cs text bound → Fits (e ∷ p) cs (a ++ text) bound
unfolding filled
fits-step e a p cs text bound h f = record { fills = rw (h, f.fills); holds = f.holds }

symbol-step : (x : Name) (b : ℕ) (p : List Element) (cs : List Condition) (text : Bytes) (bound later : Bindings) (o : Option (List (Named ℕ))) →
    take_symbol x b bound.symbols ≡ o → match_rest (match p cs text) bound o ≡ some later →
    ((known : List (Named ℕ)) → match p cs text (with_symbols bound known) ≡ some later → Found p cs text (with_symbols bound known) later) →
    Found (letter (symbol x) ∷ p) cs (b ∷ text) bound later
symbol-step x b p cs text bound later none e h after = absurd (some-none h refl)
symbol-step x b p cs text bound later (some known) e h after =
    let f = after known h in
    let k = took x b bound.symbols known (lookup x bound.symbols) refl e in
    record {
      fits = fits-step (letter (symbol x)) (b ∷ []) p cs text later (rw (f.symbols x b k.bound)) f.fits;
      symbols = λ y v g. f.symbols y v (k.keeps y v g);
      parts = f.parts;
    }

-- the part that an e-variable took, and what was found behind it
record PartFound (x : Name) (p : List Element) (cs : List Condition) (text : Bytes) (bound later : Bindings) : Type 0 where
  cut : Cut (λ piece rest. match p cs rest (with_part bound x piece)) [] text later
  taken : lookup x later.parts ≡ some cut.front
  found : Found p cs cut.back (with_part bound x cut.front) later

part_step : (x : Name) (p : List Element) (cs : List Condition) (text : Bytes) (bound later : Bindings) → Fresh (x ∷ parts_of p) bound.parts →
    member x (parts_of p) ≡ false → shortest (λ piece rest. match p cs rest (with_part bound x piece)) [] text ≡ some later →
    ((piece rest : Bytes) → Fresh (parts_of p) (with_part bound x piece).parts → match p cs rest (with_part bound x piece) ≡ some later →
    Found p cs rest (with_part bound x piece) later) →
    PartFound x p cs text bound later
unfolding member
part_step x p cs text bound later fresh apart h after =
    let c = shortest-cut (λ piece rest. match p cs rest (with_part bound x piece)) [] text later h in
    let f = after c.front c.back (fresh-after x c.front (parts_of p) bound.parts apart fresh) c.found in
    record {
      cut = c;
      taken = f.parts x c.front (append-fresh bound.parts x c.front (fresh x (rw (same-itself x))));
      found = f;
    }

part-fits : (x : Name) (p : List Element) (cs : List Condition) (text : Bytes) (bound later : Bindings) → PartFound x p cs text bound later →
    Found (part x ∷ p) cs text bound later
part-fits x p cs text bound later f =
    rw f.cut.whole
    (record {
      fits = fits-step (part x) f.cut.front p cs f.cut.back later f.taken f.found.fits;
      symbols = f.found.symbols;
      parts = λ y v g. f.found.parts y v (extends-append bound.parts _ y v g);
    })

sound : (p : List Element) (cs : List Condition) (text : Bytes) (bound later : Bindings) → distinct (parts_of p) ≡ true →
    Fresh (parts_of p) bound.parts →
    match p cs text bound ≡ some later → Found p cs text bound later
unfolding match parts_of distinct filled member
sound [] cs [] bound later d fresh h =
    let t = guard-some (hold cs bound) (some bound) h in
    let same : bound ≡ later = cc t.1 in
    rw (← same) (record { fits = record { fills = refl; holds = t.0 }; symbols = λ y v g. g; parts = λ y v g. g })
sound [] cs (b ∷ text) bound later d fresh h = absurd (some-none h refl)
sound (letter (character c) ∷ p) cs [] bound later d fresh h = absurd (some-none h refl)
sound (letter (character c) ∷ p) cs (b ∷ text) bound later d fresh h =
    let t = guard-some (eqb c b) (match p cs text bound) h in
    let f = sound p cs text bound later d fresh t.1 in
    record {
      fits = fits-step (letter (character c)) (b ∷ []) p cs text later (ap (λ n. some (n ∷ [])) (eqb-true c b t.0)) f.fits;
      symbols = f.symbols;
      parts = f.parts;
    }
sound (letter (symbol x) ∷ p) cs [] bound later d fresh h = absurd (some-none h refl)
sound (letter (symbol x) ∷ p) cs (b ∷ text) bound later d fresh h =
    symbol-step x b p cs text bound later (take_symbol x b bound.symbols) refl h
    (λ known. sound p cs text (with_symbols bound known) later d fresh)
sound (part x ∷ p) cs text bound later d fresh h =
    let t = both-parts (not (member x (parts_of p))) (distinct (parts_of p)) d in
    part-fits x p cs text bound later
    (part_step x p cs text bound later fresh (not-true _ t.0) h (λ piece rest. sound p cs rest (with_part bound x piece) later t.1))

pub match-fits : (p : List Element) (cs : List Condition) (text : Bytes) (later : Bindings) → distinct (parts_of p) ≡ true →
    match p cs text unbound ≡ some later → Fits p cs text later
unfolding lookup
match-fits p cs text later d h = (sound p cs text unbound later d (λ x m. refl) h).fits

-- WHERE NOTHING IS FOUND, NOTHING FITS

pub record Split (first later : Option Bytes) (text : Bytes) : Type 0 where
  pub piece : Bytes
  pub rest : Bytes
  pub is_first : first ≡ some piece
  pub is_later : later ≡ some rest
  pub whole : text ≡ piece ++ rest

pub split : (first later : Option Bytes) (text : Bytes) → joined first later ≡ some text → Split first later text
split none later text h = absurd (some-none h refl)
split (some a) none text h = absurd (some-none h refl)
split (some a) (some b) text h = record { piece = a; rest = b; is_first = refl; is_later = refl; whole = cc }

-- what an s-variable of bindings that fit takes is what the matcher takes for it
record Takes (x : Name) (b : ℕ) (known later : List (Named ℕ)) : Type 0 where
  after : List (Named ℕ)
  is : take_symbol x b known ≡ some after
  keeps : Extends after later

takes-new : {A : Type 0} (x : Name) (b : A) (known later : List (Named A)) → lookup x later ≡ some b → Extends known later →
    Extends (known ++ record { name = x; value = b } ∷ []) later
unfolding lookup
takes-new {A} x b known later h extends y v g = go (lookup y known) refl (rw lookup-append at g)
  where
    mine : (t : Bool) → same_bytes y x ≡ t → pick t (some b) none ≡ some v → lookup y later ≡ some v
    mine true e m = let same = same_bytes_lem y x e in cc
    mine false e m = absurd (some-none m refl)

    go : (o : Option A) → lookup y known ≡ o → or_else o (lookup y (record { name = x; value = b } ∷ [])) ≡ some v → lookup y later ≡ some v
    go (some c) e m = extends y v (e ∙ m)
    go none e m = mine (same_bytes y x) refl m

takes : (x : Name) (b : ℕ) (known later : List (Named ℕ)) (o : Option ℕ) → lookup x known ≡ o → lookup x later ≡ some b → Extends known later →
    Takes x b known later
takes x b known later none e h extends =
    record { after = known ++ record { name = x; value = b } ∷ []; is = rw e; keeps = takes-new x b known later h extends }
takes x b known later (some c) e h extends =
    let same : c ≡ b = cc (extends x c e) in
    record { after = known; is = rw (e, eq-eqb c b same); keeps = extends }

-- what is bound so far is bound alike in bindings that fit
record Kept (bound fit : Bindings) : Type 0 where
  symbols : Extends bound.symbols fit.symbols
  parts : Extends bound.parts fit.parts

asked-kept : {A : Type 0} (expected : Bool) (test : A → Bool) (x : Name) (known later : List (Named A)) (o : Option A) → lookup x known ≡ o →
    is_some o ≡ true → Extends known later → asked_of expected test (lookup x later) ≡ true → asked_of expected test o ≡ true
asked-kept expected test x known later none e bound extends h = absurd (not-both bound refl)
asked-kept expected test x known later (some v) e bound extends h = rw (extends x v e) at h

-- a condition on a name that is bound asks the same of bindings that keep it
condition-kept : (class : Class) (expected : Bool) (v : Subject) (bound fit : Bindings) → Kept bound fit →
    of_pattern (names_in bound.symbols) (names_in bound.parts) v ≡ true → holds_for class expected fit v ≡ true →
    holds_for class expected bound v ≡ true
condition-kept class expected (of_symbol x) bound fit k m h =
    asked-kept expected (in_class class) x bound.symbols fit.symbols (lookup x bound.symbols) refl (rw member-bound at m) k.symbols h
condition-kept class expected (of_part x) bound fit k m h =
    asked-kept expected (every (in_class class)) x bound.parts fit.parts (lookup x bound.parts) refl (rw member-bound at m) k.parts h

hold-kept : (cs : List Condition) (bound fit : Bindings) → all_of_pattern (names_in bound.symbols) (names_in bound.parts) cs ≡ true →
    Kept bound fit → hold cs fit ≡ true → hold cs bound ≡ true
unfolding hold every
hold-kept [] bound fit m k h = refl
hold-kept (c ∷ cs) bound fit m k h =
    let asks = both-parts (of_pattern (names_in bound.symbols) (names_in bound.parts) c.subject) _ m in
    let t = both-parts (holds_for c.predicate c.expected fit c.subject) (hold cs fit) h in
    let mine = condition-kept c.predicate c.expected c.subject bound fit k asks.0 t.0 in
    rw (mine, hold-kept cs bound fit asks.1 k t.1)

-- what is found beside bindings that fit: the first part is no longer than theirs
record Best (p : List Element) (cs : List Condition) (text : Bytes) (bound fit : Bindings) : Type 0 where
  value : Bindings
  is : match p cs text bound ≡ some value
  least : (x : Name) (more : List Name) → parts_of p ≡ x ∷ more →
      length (part_bytes (lookup x value.parts)) ≤ length (part_bytes (lookup x fit.parts))

-- conditions on what is bound so far or comes in the pattern
abbrev OnPattern : Bindings → List Element → List Condition → Type 0
OnPattern bound p cs = all_of_pattern (symbols_from (names_in bound.symbols) p) (names_in bound.parts ++ parts_of p) cs ≡ true

pub record OneByte (o : Option ℕ) (piece : Bytes) : Type 0 where
  pub byte : ℕ
  pub is : o ≡ some byte
  pub alone : piece ≡ byte ∷ []

pub one_byte_lem : (o : Option ℕ) (piece : Bytes) → one_byte o ≡ some piece → OneByte o piece
one_byte_lem none piece h = absurd (some-none h refl)
one_byte_lem (some b) piece h = record { byte = b; is = refl; alone = cc }

-- of the same pattern with one letter more before it
best-letter : (l : Letter) (p : List Element) (cs : List Condition) (text rest : Bytes) (bound later fit : Bindings) → Best p cs rest later fit →
    match (letter l ∷ p) cs text bound ≡ match p cs rest later → Best (letter l ∷ p) cs text bound fit
unfolding parts_of
best-letter l p cs text rest bound later fit b e = record { value = b.value; is = e ∙ b.is; least = b.least }

best-part : (x : Name) (p : List Element) (cs : List Condition) (rest piece : Bytes) (bound fit : Bindings) → distinct (parts_of p) ≡ true →
    Fresh (x ∷ parts_of p) bound.parts → member x (parts_of p) ≡ false → lookup x fit.parts ≡ some piece →
    Best p cs rest (with_part bound x piece) fit → Best (part x ∷ p) cs (piece ++ rest) bound fit
unfolding match parts_of
best-part x p cs rest piece bound fit d fresh apart mine b =
    record {
      value = g.value;
      is = g.is;
      least = λ y more e.
          let same : x ≡ y = cc (e) in
          rw (← same, f.taken, mine) (f.cut.least piece rest b.value refl b.is);
    }
  where
    g : Given (shortest (λ piece rest. match p cs rest (with_part bound x piece)) [] (piece ++ rest))
    g = shortest-given (λ piece rest. match p cs rest (with_part bound x piece)) [] piece rest b.value b.is

    f : PartFound x p cs (piece ++ rest) bound g.value
    f =
        part_step x p cs (piece ++ rest) bound g.value fresh apart g.is
        (λ piece rest. sound p cs rest (with_part bound x piece) g.value d)

best-nothing : (cs : List Condition) (text : Bytes) (bound fit : Bindings) → OnPattern bound [] cs → Kept bound fit → Fits [] cs text fit →
    Best [] cs text bound fit
unfolding match parts_of filled symbols_from
best-nothing cs text bound fit on k f =
    let e : [] ≡ text = cc f.fills in
    rw (← e)
    (record {
      value = bound;
      is = rw (hold-kept cs bound fit (rw append-nil at on) k f.holds);
      least = λ x more h. no-cons h;
    })

best-character : (c : ℕ) (p : List Element) (cs : List Condition) (text : Bytes) (bound fit : Bindings) →
    Fits (letter (character c) ∷ p) cs text fit →
    ((rest : Bytes) → Fits p cs rest fit → Best p cs rest bound fit) → Best (letter (character c) ∷ p) cs text bound fit
unfolding match filled
best-character c p cs text bound fit f after =
    let s = split (some (c ∷ [])) (filled fit p) text f.fills in
    let e : text ≡ c ∷ s.rest = cc (s.whole, s.is_first) in
    rw e
    (best-letter (character c) p cs (c ∷ s.rest) s.rest bound bound fit
    (after s.rest (record { fills = s.is_later; holds = f.holds }))
    (rw (eq-eqb c c refl)))

best-symbol : (x : Name) (p : List Element) (cs : List Condition) (text : Bytes) (bound fit : Bindings) →
    OnPattern bound (letter (symbol x) ∷ p) cs → Kept bound fit → Fits (letter (symbol x) ∷ p) cs text fit →
    ((known : List (Named ℕ)) (rest : Bytes) → OnPattern (with_symbols bound known) p cs → Kept (with_symbols bound known) fit → Fits p cs rest fit →
    Best p cs rest (with_symbols bound known) fit) →
    Best (letter (symbol x) ∷ p) cs text bound fit
unfolding match filled symbols_from parts_of
best-symbol x p cs text bound fit on kept f after =
    let s = split (one_byte (lookup x fit.symbols)) (filled fit p) text f.fills in
    let o = one_byte_lem (lookup x fit.symbols) s.piece s.is_first in
    let k = takes x o.byte bound.symbols fit.symbols (lookup x bound.symbols) refl o.is kept.symbols in
    let names = (took x o.byte bound.symbols k.after (lookup x bound.symbols) refl k.is).names in
    let e : text ≡ o.byte ∷ s.rest = cc (s.whole, o.alone) in
    rw e
    (best-letter (symbol x) p cs (o.byte ∷ s.rest) s.rest bound (with_symbols bound k.after) fit
    (after k.after s.rest (rw names on) (record { symbols = k.keeps; parts = kept.parts }) (record { fills = s.is_later; holds = f.holds }))
    (rw k.is))

best-piece : (x : Name) (p : List Element) (cs : List Condition) (text : Bytes) (bound fit : Bindings) → distinct (x ∷ parts_of p) ≡ true →
    Fresh (x ∷ parts_of p) bound.parts → OnPattern bound (part x ∷ p) cs → Kept bound fit → Fits (part x ∷ p) cs text fit →
    ((piece rest : Bytes) → distinct (parts_of p) ≡ true → Fresh (parts_of p) (with_part bound x piece).parts →
    OnPattern (with_part bound x piece) p cs → Kept (with_part bound x piece) fit → Fits p cs rest fit →
    Best p cs rest (with_part bound x piece) fit) →
    Best (part x ∷ p) cs text bound fit
unfolding distinct filled symbols_from parts_of
best-piece x p cs text bound fit d fresh on k f after =
    let t = both-parts (not (member x (parts_of p))) (distinct (parts_of p)) d in
    let s = split (lookup x fit.parts) (filled fit p) text f.fills in
    let apart = not-true (member x (parts_of p)) t.0 in
    rw s.whole
    (best-part x p cs s.rest s.piece bound fit t.1 fresh apart s.is_first
    (after s.piece s.rest t.1
    (fresh-after x s.piece (parts_of p) bound.parts apart fresh)
    (rw (names-append bound.parts (record { name = x; value = s.piece }), append_assoc) on)
    (record { symbols = k.symbols; parts = takes-new x s.piece bound.parts fit.parts s.is_first k.parts })
    (record { fills = s.is_later; holds = f.holds })))

best : (p : List Element) (cs : List Condition) (text : Bytes) (bound fit : Bindings) → distinct (parts_of p) ≡ true →
    Fresh (parts_of p) bound.parts →
    OnPattern bound p cs → Kept bound fit → Fits p cs text fit → Best p cs text bound fit
unfolding parts_of symbols_from
best [] cs text bound fit d fresh on k f = best-nothing cs text bound fit on k f
best (letter (character c) ∷ p) cs text bound fit d fresh on k f =
    best-character c p cs text bound fit f (λ rest. best p cs rest bound fit d fresh on k)
best (letter (symbol x) ∷ p) cs text bound fit d fresh on k f =
    best-symbol x p cs text bound fit on k f (λ known rest. best p cs rest (with_symbols bound known) fit d fresh)
best (part x ∷ p) cs text bound fit d fresh on k f =
    best-piece x p cs text bound fit d fresh on k f (λ piece rest. best p cs rest (with_part bound x piece) fit)

from_nothing : (p : List Element) (cs : List Condition) (text : Bytes) (fit : Bindings) → distinct (parts_of p) ≡ true → OnPattern unbound p cs →
    Fits p cs text fit → Best p cs text unbound fit
unfolding lookup
from_nothing p cs text fit d on f =
    best p cs text unbound fit d (λ x m. refl) on
    (record { symbols = λ x v h. absurd (some-none h refl); parts = λ x v h. absurd (some-none h refl) })
    f

-- With conditions on variables of the pattern, where nothing is found, nothing fits.
pub match_none : (p : List Element) (cs : List Condition) (text : Bytes) (fit : Bindings) → distinct (parts_of p) ≡ true →
    all_of_pattern (symbols_of p) (parts_of p) cs ≡ true → match p cs text unbound ≡ none → Fits p cs text fit → ⊥
match_none p cs text fit d on h f = some-none (from_nothing p cs text fit d on f).is h

-- Of all that fits, what is found has the shortest first part: "With two e-variables the middle template takes the leftmost place at which all
-- characters, equalities and conditions hold".
pub match-shortest : (p : List Element) (cs : List Condition) (text : Bytes) (later fit : Bindings) (x : Name) (more : List Name) →
    distinct (parts_of p) ≡ true →
    all_of_pattern (symbols_of p) (parts_of p) cs ≡ true → parts_of p ≡ x ∷ more → match p cs text unbound ≡ some later → Fits p cs text fit →
    length (part_bytes (lookup x later.parts)) ≤ length (part_bytes (lookup x fit.parts))
match-shortest p cs text later fit x more d on e h f =
    let b = from_nothing p cs text fit d on f in
    let same : b.value ≡ later = cc b.is in
    rw same at (b.least x more e)

-- AN ALLOWED SENTENCE

-- what the laws above ask of a sentence, all of which 01 asks of an allowed one
pub record Regular (p : List Element) (cs : List Condition) : Type 0 where
  pub apart : distinct (parts_of p) ≡ true
  pub few : length (parts_of p) ≤ 2
  pub on_pattern : all_of_pattern (symbols_of p) (parts_of p) cs ≡ true

pub allowed-regular : (p : List Element) (cs : List Condition) → allowed_pattern p ≡ true → allowed_conditions (symbols_of p) (parts_of p) cs ≡ true →
    Regular p cs
allowed-regular p cs h g =
    let a = (both-parts (every spelled_element p) _ h).1 in
    let b = both-parts (leb (length (parts_of p)) 2) _ a in
    let c = (both-parts (parted p) _ b.1).1 in
    record {
      apart = distinct-second (symbols_of p) (parts_of p) (both-parts (distinct (symbols_of p ++ parts_of p)) _ c).0;
      few = leb-true _ 2 b.0;
      on_pattern = (both-parts (all_of_pattern (symbols_of p) (parts_of p) cs) _ g).0;
    }
