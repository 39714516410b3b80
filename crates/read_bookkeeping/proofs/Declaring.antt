-- The variables of a sentence, and one more of them.
use Prim.Native.Nat.{ℕ, zero, suc}
use mathlib.Core.Path.{◌≡◌, refl, ap}
use mathlib.Core.List.{List, [], ◌∷◌, ◌++◌}
use lib.ListN.{length, drop}
use Rattle.std.specs.List.{All}
use Rattle.std.proofs.Common.{rules}
use Rattle.std.proofs.lemmas.List.Elements.{All-append}
use native.Mathlib.Omega.{arith}
use Rattle.meaning.specs.Choice.{Bytes, Name}
use Rattle.read_tokens.specs.View.{span_text}
use Rattle.read_tokens.specs.declared.Span.{Span}
use Rattle.read_bookkeeping.specs.declared.variables.Variables.{Variables}
use Rattle.read_bookkeeping.specs.Tables.{Inside, names_in}
use Rattle.read_bookkeeping.specs.Items.{symbol_spans, part_spans, Known}

-- NAMES

pub names-length : (text : Bytes) (xs : List Span) → length (names_in text xs) ≡ length xs
names-length text [] = refl
names-length text (x ∷ xs) = ap suc (names-length text xs)

pub names-append : (text : Bytes) (xs ys : List Span) → names_in text (xs ++ ys) ≡ names_in text xs ++ names_in text ys
names-append text [] ys = refl
names-append text (x ∷ xs) ys = ap {B = List Name} (λ (names : List Name). span_text text x ∷ names) (names-append text xs ys)

-- those from a later one on
pub names-drop : (text : Bytes) (n : ℕ) (xs : List Span) → names_in text (drop n xs) ≡ drop n (names_in text xs)
names-drop text zero xs = refl
names-drop text (suc n) [] = refl
names-drop text (suc n) (x ∷ xs) = names-drop text n xs

-- VARIABLES

all-none : (text : Bytes) → All (Inside text) []
all-none text = search rules

all-one : (text : Bytes) (x : Span) → Inside text x → All (Inside text) (x ∷ [])
all-one text x i zero d h = i
all-one text x i (suc k) d h = absurd (omega arith)

all-more : (text : Bytes) (xs : List Span) (x : Span) → All (Inside text) xs → Inside text x → All (Inside text) (xs ++ x ∷ [])
all-more text xs x a i = All-append (Inside text) xs (x ∷ []) a (all-one text x i)

pub known-none : (text : Bytes) (v : Variables) → symbol_spans v ≡ [] → part_spans v ≡ [] → Known text v
known-none text v s p = record { symbols = rw s (all-none text); parts = rw p (all-none text) }

module _ (text : Bytes) (v w : Variables) (k : Known text v) (x : Span) (i : Inside text x) where
  pub known-symbol : symbol_spans w ≡ symbol_spans v ++ x ∷ [] → part_spans w ≡ part_spans v → Known text w
  known-symbol s p = record { symbols = rw s (all-more text (symbol_spans v) x k.symbols i); parts = rw p k.parts }

  pub known-part : symbol_spans w ≡ symbol_spans v → part_spans w ≡ part_spans v ++ x ∷ [] → Known text w
  known-part s p = record { symbols = rw s k.symbols; parts = rw p (all-more text (part_spans v) x k.parts i) }
