-- What is spelled as a name or an identifier is made of bytes and is short.
use Prim.Native.Nat.{ℕ, ◌<◌, ◌≤◌}
use mathlib.Core.List.{[], ◌∷◌}
use native.Mathlib.Omega.{arith}
use lib.Dec.{T, leb, eqb, leb→le, eqb→eq, lt→ltb}
use lib.ListN.{length}
use Rattle.meaning.specs.Choice.{Name, either, every}
use Rattle.meaning.specs.Classes.{within, in_class, digit, alphabetic}
use Rattle.meaning.specs.Allowed.{is_byte, word_byte, name_byte, spelled_name, max_name, spelled_identifier, max_identifier}
use Rattle.meaning.proofs.Laws.Passing.{both_left, both_right, both-pass, either-cases, every-weaken}

within-high : (low high b : ℕ) → T (within low high b) → b ≤ high
within-high low high b t = leb→le b high (both_right (leb low b) (leb b high) t)

letter-low : (b : ℕ) → T (in_class alphabetic b) → b < 256
letter-low b =
    either-cases (within 65 90 b) (within 97 122 b)
    (λ t. omega (arith, within-high 65 90 b t))
    (λ t. omega (arith, within-high 97 122 b t))

word_low : (b : ℕ) → T (word_byte b) → b < 256
word_low b =
    either-cases (in_class alphabetic b) (in_class digit b) (letter-low b) (λ t. omega (arith, within-high 48 57 b t))

name-low : (b : ℕ) → T (name_byte b) → b < 256
name-low b =
    either-cases (word_byte b) (either (eqb b 95) (eqb b 45))
    (word_low b)
    (either-cases (eqb b 95) (eqb b 45) (λ t. omega (arith, eqb→eq b 95 t)) (λ t. omega (arith, eqb→eq b 45 t)))

pub name-bytes : (n : Name) → T (spelled_name n) → T (every is_byte n)
unfolding every
name-bytes [] t = tt
name-bytes (b ∷ n) t =
    both-pass (is_byte b) (every is_byte n) (lt→ltb b 256 (letter-low b (search both_left)))
    (every-weaken name_byte is_byte (λ x u. lt→ltb x 256 (name-low x u)) n (search (both_left, both_right)))

pub name-short : (n : Name) → T (spelled_name n) → length n ≤ max_name
name-short [] t = omega arith
name-short (b ∷ n) t = leb→le (length (b ∷ n)) max_name (search (both_left, both_right))

pub identifier-bytes : (x : Name) → T (spelled_identifier x) → T (every is_byte x)
unfolding every
identifier-bytes [] t = tt
identifier-bytes (b ∷ x) t =
    every-weaken word_byte is_byte (λ c u. lt→ltb c 256 (word_low c u)) (b ∷ x)
    (both_left (every word_byte (b ∷ x)) (leb (length (b ∷ x)) max_identifier) t)

pub identifier-short : (x : Name) → T (spelled_identifier x) → length x ≤ max_identifier
identifier-short [] t = omega arith
identifier-short (b ∷ x) t =
    leb→le (length (b ∷ x)) max_identifier (both_right (every word_byte (b ∷ x)) (leb (length (b ∷ x)) max_identifier) t)
