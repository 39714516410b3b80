-- A string of three bytes is its two quotes and the one character between them.
use Prim.Native.Nat.{ℕ, suc, ◌+◌, ◌≤◌, ◌<◌}
use mathlib.Core.Path.{◌≡◌, sym, ◌∙◌, ap}
use mathlib.Core.Bool.{Bool, true, false}
use mathlib.Core.List.{[], ◌∷◌, ◌++◌}
use native.Mathlib.Numerals.{add-one}
use native.Mathlib.Omega.{arith}
use lib.Dec.{eqb, ltb}
use lib.ListN.{length, get_or, drop}
use Rattle.meaning.specs.Choice.{Bytes, pick, either}
use Rattle.meaning.specs.Classes.{in_class, digit}
use Rattle.meaning.specs.Tokens.{Quoting, plain, escaped, coded, Turn, goes_on, closes}
use Rattle.meaning.specs.Tokens.{breaks, digit_value, turn, Quotation, closed, broken, quote_on}
use Rattle.meaning.specs.Tokens.{quotation}
use Rattle.meaning.proofs.Laws.Choosing.{of_either}
use Rattle.read_tokens.specs.View.{characters_in, quotation_at}
use Rattle.meaning.proofs.Laws.Places.{here}

never-closed : {A : Type 0} {at past : ℕ} {rest all rest' : Bytes} → broken at rest ≡ closed all past rest' → A
never-closed e = let z : ◌≡◌ {A = ℕ} 0 1 = cc in absurd (omega arith)

-- a string that goes on closes after one more byte at least
closes-after : (bytes : Bytes) (state : Quoting) (characters : Bytes) (at : ℕ) {all : Bytes} {past : ℕ} {rest : Bytes}
    → quotation state characters at bytes ≡ closed all past rest → at < past
unfolding quotation
closes-after [] state characters at e = never-closed e
closes-after (b ∷ bytes) state characters at {all} {past} {rest} e =
    turned (turn state characters b) (λ next longer f. closes-after bytes next longer (suc at) f) e
  where
    turned : (t : Turn) → ((next : Quoting) (longer : Bytes) → quotation next longer (suc at) bytes ≡ closed all past rest → suc at < past)
        → quote_on t (λ next longer. quotation next longer (suc at) bytes) (suc at) bytes ≡ closed all past rest → at < past
    turned (goes_on next longer) later f = let l = later next longer f in omega arith
    turned (closes longer) later f = let p : suc at ≡ past = cc in omega arith
    turned breaks later f = never-closed f

-- a string that closes right after a byte closes at it
closes_at : (t : Turn) (at : ℕ) (bytes : Bytes) {all rest : Bytes}
    → quote_on t (λ next longer. quotation next longer at bytes) at bytes ≡ closed all at rest → t ≡ closes all
closes_at (goes_on next longer) at bytes e = let l = closes-after bytes next longer at e in absurd (omega arith)
closes_at (closes longer) at bytes e = cc
closes_at breaks at bytes e = never-closed e

-- BYTES THAT CLOSE NO STRING

record Open (t : Turn) : Type 0 where
  never : (all : Bytes) → t ≡ closes all → ⊥

goes-open : (next : Quoting) (longer : Bytes) → Open (goes_on next longer)
goes-open next longer = record { never = λ all e. let z : ◌≡◌ {A = ℕ} 0 1 = cc in omega arith }

breaks-open : Open breaks
breaks-open = record { never = λ all e. let z : ◌≡◌ {A = ℕ} 0 1 = cc in omega arith }

open-pick : (b : Bool) {t u : Turn} → Open t → Open u → Open (pick b t u)
open-pick b {t} {u} = of_either Open b t u

-- no byte after a `\` does
escaped-open : (characters : Bytes) (c : ℕ) → Open (turn escaped characters c)
escaped-open characters c =
    open-pick (either (eqb c 39) (either (eqb c 34) (eqb c 92))) (goes-open plain _)
    (open-pick (eqb c 110) (goes-open plain _)
    (open-pick (eqb c 116) (goes-open plain _)
    (open-pick (eqb c 10) (goes-open plain _)
    (open-pick (in_class digit c) (open-pick (ltb (digit_value c) 256) (goes-open (coded (digit_value c)) _) breaks-open) breaks-open))))

-- one that closes a string is a quote, and the characters are those before it
plain-closes : (characters : Bytes) (c : ℕ) {all : Bytes} → turn plain characters c ≡ closes all → characters ≡ all
plain-closes characters c {all} e = go (eqb c 39) e
  where
    others : Turn
    others = pick (eqb c 34) breaks (pick (eqb c 92) (goes_on escaped characters) (goes_on plain (characters ++ c ∷ [])))

    go : (b : Bool) → pick b (closes characters) others ≡ closes all → characters ≡ all
    go true f = cc
    go false f = absurd ((open-pick (eqb c 34) breaks-open (open-pick (eqb c 92) (goes-open escaped _) (goes-open plain _))).never all f)

-- THREE BYTES

one-character : (at b c : ℕ) (bytes : Bytes) {all rest : Bytes} → quotation plain [] at (b ∷ c ∷ bytes) ≡ closed all (suc (suc at)) rest → all ≡
    b ∷ []
unfolding quotation
one-character at b c bytes {all} {rest} e = go (eqb b 39) (eqb b 34) (eqb b 92) e
  where
    after : Quoting → Bytes → Quotation
    after next longer = quote_on (turn next longer c) (λ more longest. quotation more longest (suc (suc at)) bytes) (suc (suc at)) bytes

    go : (quote double back : Bool)
        → quote_on (pick quote (closes []) (pick double breaks (pick back (goes_on escaped []) (goes_on plain (b ∷ []))))) after (suc at) (c ∷ bytes)
        ≡ closed all (suc (suc at)) rest
        → all ≡ b ∷ []
    go true double back f = let z : suc at ≡ suc (suc at) = cc in absurd (omega arith)
    go false true back f = never-closed f
    go false false true f = absurd ((escaped-open [] c).never all (closes_at (turn escaped [] c) (suc (suc at)) bytes f))
    go false false false f = sym (plain-closes (b ∷ []) c (closes_at (turn plain (b ∷ []) c) (suc (suc at)) bytes f))

pub three-bytes : (text : Bytes) (place past : ℕ) → past ≡ place + 3 → past ≤ length text
    → quotation_at text place ≡ closed (characters_in (quotation_at text place)) past (drop past text)
    → characters_in (quotation_at text place) ≡ get_or text (place + 1) 0 ∷ []
three-bytes text place past d h e =
    let p : past ≡ suc (suc (suc place)) = omega arith in
    let bytes : drop (suc place) text ≡ get_or text (suc place) 0 ∷ get_or text (suc (suc place)) 0 ∷ drop (suc (suc (suc place))) text
    = here text (suc place) (omega arith) ∙ rw (here text (suc (suc place)) (omega arith))
    in
    rw add-one
    (one-character (suc place) (get_or text (suc place) 0) (get_or text (suc (suc place)) 0)
    (drop (suc (suc (suc place))) text) {rest = drop past text}
    (sym (ap (quotation plain [] (suc place)) bytes) ∙ e ∙ rw p))
