-- What the matcher finds is the only fit with a first part of its length; with one e-variable or none, the only fit.
use Prim.Native.Nat.{◌≤◌}
use native.Mathlib.Omega.{arith}
use mathlib.Core.Path.{◌≡◌, refl, sym, ap, ◌∙◌}
use mathlib.Core.Bool.{true}
use mathlib.Core.List.{List, [], ◌∷◌, ◌++◌, map}
use mathlib.Core.Option.{Option, some}
use lib.ListN.{length, length-append}
use Rattle.meaning.specs.Choice.{Bytes, Name, lookup}
use Rattle.meaning.specs.Tree.{Letter, character, symbol, Element, letter, part, Condition}
use Rattle.meaning.specs.Rewriting.{Bindings, unbound, match, part_bytes}
use Rattle.meaning.specs.Fits.{stands_for, filled, Fits}
use Rattle.meaning.specs.Allowed.{parts_of, distinct}
use Rattle.meaning_agreeing.proofs.Laws.Fits.{Split, split, one_byte_lem, tail-equal, nil-length, match-fits}

append-equal : (a b r t : Bytes) → length a ≡ length b → a ++ r ≡ b ++ t → (a ≡ b) × (r ≡ t)
append-equal [] [] r t e h = (refl, h)
append-equal [] (y ∷ b) r t e h = absurd (nil-length e)
append-equal (x ∷ a) [] r t e h = absurd (nil-length (sym e))
append-equal (x ∷ a) (y ∷ b) r t e h =
    let s = append-equal a b r t (omega arith) (cc) in
    (cc s.0, s.1)

-- what two bindings that fill a pattern alike give its elements
abbrev Alike : Bindings → Bindings → List Element → Type 0
Alike a b p = map (stands_for a) p ≡ map (stands_for b) p

-- one element more, which both give the same number of bytes
alike-step : (e : Element) (p : List Element) (a b : Bindings) (text : Bytes) → filled a (e ∷ p) ≡ some text → filled b (e ∷ p) ≡ some text →
    ((s : Split (stands_for a e) (filled a p) text) (u : Split (stands_for b e) (filled b p) text) → length s.piece ≡ length u.piece) →
    ((rest : Bytes) → filled a p ≡ some rest → filled b p ≡ some rest → Alike a b p) → Alike a b (e ∷ p)
unfolding filled
alike-step e p a b text f g same later =
    let s = split (stands_for a e) (filled a p) text f in
    let u = split (stands_for b e) (filled b p) text g in
    let t = append-equal s.piece u.piece s.rest u.rest (same s u) (sym s.whole ∙ u.whole) in
    let here : stands_for a e ≡ stands_for b e = cc (s.is_first, u.is_first, t.0) in
    let behind = later s.rest s.is_later (cc (u.is_later, t.1)) in
    cc (here, behind)

taken-length : {o : Option Bytes} {piece : Bytes} → o ≡ some piece → length piece ≡ length (part_bytes o)
taken-length h = rw h

letter-length : (l : Letter) (a : Bindings) (piece : Bytes) → stands_for a (letter l) ≡ some piece → length piece ≡ 1
letter-length (character c) a piece h = let e : c ∷ [] ≡ piece = cc in rw (← e)
letter-length (symbol x) a piece h = rw (one_byte_lem (lookup x a.symbols) piece h).alone

letter-alike : (l : Letter) (p : List Element) (a b : Bindings) (text : Bytes) → filled a (letter l ∷ p) ≡ some text → filled b (letter l ∷ p) ≡
    some text →
    ((rest : Bytes) → filled a p ≡ some rest → filled b p ≡ some rest → Alike a b p) → Alike a b (letter l ∷ p)
letter-alike l p a b text f g later =
    alike-step (letter l) p a b text f g
    (λ s u. letter-length l a s.piece s.is_first ∙ sym (letter-length l b u.piece u.is_first))
    later

-- a pattern without e-variables has as many bytes as elements
fixed-length : (p : List Element) (a : Bindings) (text : Bytes) → length (parts_of p) ≤ 0 → filled a p ≡ some text → length text ≡ length p
unfolding parts_of filled
fixed-length [] a text few f = let e : [] ≡ text = cc in rw (← e)
fixed-length (letter l ∷ p) a text few f =
    let s = split (stands_for a (letter l)) (filled a p) text f in
    rw (s.whole, length-append)
    (omega (arith, letter-length l a s.piece s.is_first, fixed-length p a s.rest few s.is_later))
fixed-length (part x ∷ p) a text few f = omega arith

last-length : (p : List Element) (a b : Bindings) (text : Bytes) (first second : Option Bytes) → length (parts_of p) ≤ 0 →
    (s : Split first (filled a p) text) (u : Split second (filled b p) text) → length s.piece ≡ length u.piece
last-length p a b text first second few s u =
    omega (
      arith,
      simp length-append at (ap length s.whole),
      simp length-append at (ap length u.whole),
      fixed-length p a s.rest few s.is_later,
      fixed-length p b u.rest few u.is_later,
    )

-- with one e-variable at most, its length is what the others leave
alike-last : (p : List Element) (a b : Bindings) (text : Bytes) → length (parts_of p) ≤ 1 → filled a p ≡ some text → filled b p ≡ some text →
    Alike a b p
unfolding parts_of
alike-last [] a b text few f g = refl
alike-last (letter l ∷ p) a b text few f g = letter-alike l p a b text f g (λ rest. alike-last p a b rest few)
alike-last (part x ∷ p) a b text few f g =
    alike-step (part x) p a b text f g
    (last-length p a b text (lookup x a.parts) (lookup x b.parts) (omega arith))
    (λ rest. alike-last p a b rest (omega arith))

-- with a second one, where the first parts are of one length
alike-first : (p : List Element) (a b : Bindings) (text : Bytes) (x : Name) (more : List Name) → parts_of p ≡ x ∷ more → length more ≤ 1 →
    length (part_bytes (lookup x a.parts)) ≡ length (part_bytes (lookup x b.parts)) → filled a p ≡ some text → filled b p ≡ some text →
    Alike a b p
unfolding parts_of
alike-first [] a b text x more e few same f g = refl
alike-first (letter l ∷ p) a b text x more e few same f g =
    letter-alike l p a b text f g (λ rest. alike-first p a b rest x more e few same)
alike-first (part y ∷ p) a b text x more e few same f g =
    let name : y ≡ x = cc (e) in
    let rest-few : length (parts_of p) ≤ 1 = rw (tail-equal e) few in
    alike-step (part y) p a b text f g
    (λ s u. taken-length s.is_first ∙ rw name same ∙ sym (taken-length u.is_first))
    (λ rest. alike-last p a b rest rest-few)

-- What is found is the only fit with its first part's length; with one e-variable or none, the only fit.
pub match-only : (p : List Element) (cs : List Condition) (text : Bytes) (later fit : Bindings) → distinct (parts_of p) ≡ true →
    length (parts_of p) ≤ 2 →
    match p cs text unbound ≡ some later → Fits p cs text fit →
    ((x y : Name) → parts_of p ≡ x ∷ y ∷ [] → length (part_bytes (lookup x fit.parts)) ≡ length (part_bytes (lookup x later.parts))) →
    map (stands_for fit) p ≡ map (stands_for later) p
match-only p cs text later fit d few h f same = go (parts_of p) refl few same
  where
    whole : filled later p ≡ some text
    whole = (match-fits p cs text later d h).fills

    go : (names : List Name) → parts_of p ≡ names → length names ≤ 2 →
        ((x y : Name) → names ≡ x ∷ y ∷ [] → length (part_bytes (lookup x fit.parts)) ≡ length (part_bytes (lookup x later.parts))) →
        Alike fit later p
    go [] e few same = alike-last p fit later text (rw e (omega arith)) f.fills whole
    go (x ∷ []) e few same = alike-last p fit later text (rw e (omega arith)) f.fills whole
    go (x ∷ y ∷ []) e few same = alike-first p fit later text x (y ∷ []) e (omega arith) (same x y refl) f.fills whole
    go (x ∷ y ∷ z ∷ more) e few same = absurd (omega arith)
