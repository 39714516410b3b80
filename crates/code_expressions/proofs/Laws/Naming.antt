-- A function's number, by the names of the table's functions; and a value's, by those of the different s-variables.
use Prim.Native.Nat.{ℕ, suc, ◌+◌, ◌-◌}
use native.Mathlib.Omega.{arith}
use native.Mathlib.Numerals.{add-one}
use mathlib.Core.Path.{◌≡◌, refl, sym, ap, ap₂, ◌∙◌}
use mathlib.Core.Bool.{Bool, true, false}
use mathlib.Core.List.{List, [], ◌∷◌, map}
use Rattle.meaning.specs.Choice.{Name, Named, pick, same_bytes}
use Rattle.meaning.specs.Tree.{Table}
use Rattle.meaning.specs.Names.{number_from}
use Rattle.meaning.specs.Allowed.{names_of}
use Rattle.meaning.specs.Instructions.{Site}
use Rattle.meaning.specs.Translation.{value_from, value_number}
use Rattle.tape_words.specs.Finding.{number_among}
use Rattle.code_patterns.specs.declared.symbols.Symbol.{Symbol}
use Rattle.code_patterns.specs.Testing.{symbol_name, held}

pub number-among : (k : ℕ) (t : Table) (n : Name) → number_from k t n ≡ number_among k (names_of t) n
unfolding number_from number_among
number-among k [] n = refl
number-among k (f ∷ t) n =
    ap₂ (λ (a b : ℕ). pick (same_bytes n f.name) a b) (sym (add-one k)) (rw (← (add-one k)) (number-among (k + 1) t n))

-- the number of a value is one less than the number of its name
value-among : (k : ℕ) (ss : List (Named Site)) (x : Name) → value_from k x ss ≡ number_among k (map (λ s. s.name) ss) x - 1
unfolding value_from number_among
value-among k [] x = refl
value-among k (s ∷ ss) x = by-test (same_bytes x s.name) (rw (← (add-one k)) (value-among (k + 1) ss x))
  where
    by-test : (t : Bool) → value_from (suc k) x ss ≡ number_among (k + 1) (map (λ s. s.name) ss) x - 1
        → pick t k (value_from (suc k) x ss) ≡ pick t (k + 1) (number_among (k + 1) (map (λ s. s.name) ss) x) - 1
    by-test true e = omega arith
    by-test false e = e

-- the names of the symbols that are held
pub names-held : (ws : List ℕ) (symbols : List Symbol) → map (λ s. s.name) (held ws symbols) ≡ map (λ s. symbol_name ws s) symbols
names-held ws [] = refl
names-held ws (s ∷ ss) = ap (λ (r : List Name). symbol_name ws s ∷ r) (names-held ws ss)

-- the cells of the s-variables do not change it
pub value-held : (ws : List ℕ) (ss : List (Named Site)) (symbols : List Symbol) (x : Name)
    → map (λ s. s.name) ss ≡ map (λ s. symbol_name ws s) symbols → value_number ss x ≡ value_number (held ws symbols) x
value-held ws ss symbols x e =
    value-among 0 ss x ∙ ap (λ (l : List Name). number_among 0 l x - 1) (e ∙ sym (names-held ws symbols))
    ∙ sym (value-among 0 (held ws symbols) x)
