-- Laws of the different s-variables: finding one by its name, and adding one; and what a condition's word says.
use Rattle.std.proofs.Common.{◌≡◌, ℕ, zero, suc, ◌+◌, ◌<◌, ◌≤◌, true, false, List, [], ◌∷◌, ◌++◌, length, take, set}
use Rattle.std.proofs.Common.{refl, sym, ap, arith, ◌∙◌, add-one}
use Rattle.std.specs.Prelude.{Option, None, Some, unwrap_or, eqb}
use Rattle.std.specs.List.{AllWithin, HoldsAt}
use mathlib.Core.Option.{none, some}
use lib.ListN.{get_or}
use lib.Seq.{take-suc-set}
use Rattle.meaning.specs.Allowed.{max_letters}
use Rattle.meaning.specs.Choice.{Name, Named, lookup, same_bytes}
use Rattle.meaning.specs.Classes.{class_number}
use Rattle.meaning.specs.Instructions.{Site as MeantSite}
use Rattle.meaning.specs.Packing.{site_offset, truth_bit}
use Rattle.meaning.specs.Translation.{value_from, value_number}
use Rattle.tape_layout.specs.Tape.{class_count}
use Rattle.tape_words.specs.declared.tape.Parts.{Parts}
use Rattle.tape_words.specs.declared.tape.Parts.TheVariants.{Zero, One, Two}
use Rattle.tape_words.specs.Words.{class_in}
use Rattle.code_patterns.specs.declared.pattern.Lengths.{Lengths}
use Rattle.code_patterns.specs.declared.sites.Register.{Register}
use Rattle.code_patterns.specs.declared.sites.Register.TheVariants.{Start, End, Place}
use Rattle.code_patterns.specs.declared.sites.Site.{Site}
use Rattle.code_patterns.specs.declared.symbols.Symbol.{Symbol}
use Rattle.code_patterns.specs.Testing.{site_in, site_meant, SmallSite, last_of, site_by, site_at, total}
use Rattle.code_patterns.specs.Testing.{symbol_name, held, HasName, LacksName, IsFirstNamed}

-- FINDING ONE

module _ (ws : List ℕ) (n : Name) where
  held-none : (symbols : List Symbol) → AllWithin (LacksName ws n) symbols 0 (length symbols) → lookup n (held ws symbols) ≡ none
  unfolding lookup
  held-none [] all = refl
  held-none (s ∷ ss) all =
      let e : same_bytes n (symbol_name ws s) ≡ false = all 0 s (omega arith) (omega arith) in
      rw e (held-none ss (λ k d l h. all (suc k) d (omega arith) (omega arith)))

  held-some : (symbols : List Symbol) (k : ℕ) (d : Symbol) → k < length symbols → HoldsAt (HasName ws n) symbols k
      → AllWithin (LacksName ws n) symbols 0 k → lookup n (held ws symbols) ≡ some (site_meant (get_or symbols k d).site)
  unfolding lookup
  held-some [] k d l has lacks = absurd (omega arith)
  held-some (s ∷ ss) zero d l has lacks = let e : same_bytes n (symbol_name ws s) ≡ true = has s in rw e refl
  held-some (s ∷ ss) (suc k) d l has lacks =
      let e : same_bytes n (symbol_name ws s) ≡ false = lacks 0 s (omega arith) (omega arith) in
      rw e (held-some ss k d (omega arith) has (λ j x o h. lacks (suc j) x (omega arith) (omega arith)))

  value-none : (from : ℕ) (symbols : List Symbol) → AllWithin (LacksName ws n) symbols 0 (length symbols)
      → value_from from n (held ws symbols) ≡ 0
  unfolding value_from
  value-none from [] all = refl
  value-none from (s ∷ ss) all =
      let e : same_bytes n (symbol_name ws s) ≡ false = all 0 s (omega arith) (omega arith) in
      rw e (value-none (suc from) ss (λ k d l h. all (suc k) d (omega arith) (omega arith)))

  value-some : (from : ℕ) (symbols : List Symbol) (k : ℕ) → k < length symbols → HoldsAt (HasName ws n) symbols k
      → AllWithin (LacksName ws n) symbols 0 k → value_from from n (held ws symbols) ≡ from + k
  unfolding value_from
  value-some from [] k l has lacks = absurd (omega arith)
  value-some from (s ∷ ss) zero l has lacks = let e : same_bytes n (symbol_name ws s) ≡ true = has s in rw e (omega arith)
  value-some from (s ∷ ss) (suc k) l has lacks =
      let e : same_bytes n (symbol_name ws s) ≡ false = lacks 0 s (omega arith) (omega arith) in
      rw e (value-some (suc from) ss k (omega arith) has (λ j x o h. lacks (suc j) x (omega arith) (omega arith)) ∙ omega arith)

  -- from where it was found
  module _ (symbols : List Symbol) where
    pub none-found : IsFirstNamed ws symbols n None → none ≡ lookup n (held ws symbols)
    none-found all = sym (held-none symbols all)

    pub site-found : (k : ℕ) (d : Symbol) → IsFirstNamed ws symbols n (Some k)
        → some (site_meant (get_or symbols k d).site) ≡ lookup n (held ws symbols)
    site-found k d (l, has, lacks) = sym (held-some symbols k d l has lacks)

    pub value-found : (r : Option ℕ) → IsFirstNamed ws symbols n r → unwrap_or r 0 ≡ value_number (held ws symbols) n
    value-found None all = sym (value-none 0 symbols all)
    value-found (Some k) (l, has, lacks) = let e = value-some 0 symbols k l has lacks in omega (arith, e)

    pub value-bound : (r : Option ℕ) → IsFirstNamed ws symbols n r → unwrap_or r 0 ≤ length symbols
    value-bound None all = omega arith
    value-bound (Some k) (l, has, lacks) = omega arith

-- ADDING ONE

held-append : (ws : List ℕ) (symbols : List Symbol) (s : Symbol)
    → held ws (symbols ++ s ∷ []) ≡ held ws symbols ++ record { name = symbol_name ws s; value = site_meant s.site } ∷ []
held-append ws [] s = refl
held-append ws (r ∷ rs) s =
    ap (λ (l : List (Named MeantSite)). record { name = symbol_name ws r; value = site_meant r.site } ∷ l) (held-append ws rs s)

pub held_more : (ws : List ℕ) (symbols : List Symbol) (n : ℕ) (s : Symbol) → n < length symbols
    → held ws (take (n + 1) (set symbols n s))
    ≡ held ws (take n symbols) ++ record { name = symbol_name ws s; value = site_meant s.site } ∷ []
held_more ws symbols n s h = rw (add-one, take-suc-set symbols n s h) (held-append ws (take n symbols) s)

-- THEIR CELLS ARE SMALL

offset-meant : (r : Register) (o : ℕ) → site_offset (site_in r o) ≡ o
offset-meant Start o = refl
offset-meant End o = refl
offset-meant Place o = refl

last-small : (p : Parts) (l : Lengths) → last_of p l ≤ total l
last-small Zero l = omega arith
last-small One l = omega arith
last-small Two l = omega arith

by-small : (parts template : Parts) (last o : ℕ) → last ≤ max_letters → o ≤ max_letters
    → site_offset (site_by parts template last o) ≤ max_letters
by-small parts Zero last o h k = k
by-small Zero One last o h k = omega arith
by-small One One last o h k = omega arith
by-small Two One last o h k = k
by-small parts Two last o h k = omega arith

pub site-small : (l : Lengths) (template : Parts) (o : ℕ) → total l ≤ max_letters → o ≤ max_letters
    → (cell : Site) → site_meant cell ≡ site_at l template o → SmallSite cell
site-small l template o h k cell e =
    omega (
      arith,
      offset-meant cell.register cell.offset,
      ap site_offset e,
      by-small l.parts template (last_of l.parts l) o (omega (arith, last-small l.parts l)) k,
    )

-- WHAT A CONDITION'S WORD SAYS

pub class-number : (n : ℕ) → n < class_count → class_number (class_in n) ≡ n
class-number zero h = refl
class-number (suc zero) h = refl
class-number (suc (suc zero)) h = refl
class-number (suc (suc (suc zero))) h = refl
class-number (suc (suc (suc (suc zero)))) h = refl
class-number (suc (suc (suc (suc (suc n))))) h = absurd (omega arith)

pub truth-bit : (n : ℕ) → n < 2 → truth_bit (eqb n 1) ≡ n
truth-bit zero h = refl
truth-bit (suc zero) h = refl
truth-bit (suc (suc n)) h = absurd (omega arith)
