-- Reading a text gives a tree exactly when the grammar derives it and it is allowed.
use Prim.Native.Nat.{ℕ, suc, ◌≤◌}
use mathlib.Core.Path.{◌≡◌, refl, sym, ap, ◌∙◌}
use mathlib.Core.Bool.{Bool, true, false}
use mathlib.Core.List.{List, [], ◌∷◌}
use mathlib.Core.Option.{Option, none, some}
use native.Mathlib.Omega.{arith}
use borrow.Author.Tests.{leb-true, le-leb}
use lib.Dec.{leb}
use lib.ListN.{length}
use Rattle.meaning.specs.Choice.{Bytes, pick, both, or_else, every}
use Rattle.meaning.specs.Tree.{Expression, end, then_character, then_symbol, then_part, then_call, Sentence, Function, Table}
use Rattle.meaning.specs.Names.{is_known}
use Rattle.meaning.specs.Allowed.{is_byte, allowed, allowed_function, calls_known, names_of, distinct, sentences_in, max_table, max_functions}
use Rattle.meaning.specs.Allowed.{max_sentences}
use Rattle.meaning.specs.Tokens.{outside, Placed, tokens}
use Rattle.meaning.specs.Grammar.{IsProgram}
use Rattle.meaning.specs.Reading.{Parsed, stopped, parsed, parse_functions, unknown_call, unknown_in_sentences, unknown_in, known, verdict, accepted}
use Rattle.meaning.specs.Reading.{refused, read}
use Rattle.meaning_accepting.proofs.Reading.Basics.{both_left, both_right, both_true, impossible}
use Rattle.meaning_accepting.proofs.Reading.TokensSound.{tokens-sound}
use Rattle.meaning_accepting.proofs.Reading.Tables.{functions-sound, functions-complete}

-- CALLED NAMES: the test of a tree passes exactly where no unknown call is found

abbrev is_none : {A : Type 0} → Option A → Bool
is_none none = true
is_none (some a) = false

none_found : {A : Type 0} (o : Option A) → is_none o ≡ true → o ≡ none
none_found none e = refl
none_found (some a) e = impossible e

neither : {A : Type 0} (o p : Option A) → both (is_none o) (is_none p) ≡ is_none (or_else o p)
neither none p = refl
neither (some a) p = refl

-- for the test of a call's name and for what stands in the call and after it
call_known : (b : Bool) (place : ℕ) (o p : Option ℕ) → both b (both (is_none o) (is_none p)) ≡ is_none (pick b (or_else o p) (some place))
call_known true place o p = neither o p
call_known false place o p = refl

calls-known : (t : Table) (e : Expression) → calls_known t e ≡ is_none (unknown_call t e)
unfolding unknown_call calls_known
calls-known t end = refl
calls-known t (then_character c e) = calls-known t e
calls-known t (then_symbol x e) = calls-known t e
calls-known t (then_part x e) = calls-known t e
calls-known t (then_call place f a e) =
    rw (calls-known t a, calls-known t e)
    (call_known (is_known t f) place (unknown_call t a) (unknown_call t e))

abbrev sentences_known : Table → List Sentence → Bool
sentences_known t ss = every (λ s. calls_known t s.expression) ss

abbrev functions_known : Table → List Function → Bool
functions_known t fs = every (λ f. sentences_known t f.sentences) fs

-- where a test of one element is a look that finds nothing, so is the test of all
all_known : {A : Type 0} (test : A → Bool) (look : A → Option ℕ) (first : List A → Option ℕ) → ((x : A) → test x ≡ is_none (look x))
    → first [] ≡ none → ((x : A) (xs : List A) → first (x ∷ xs) ≡ or_else (look x) (first xs)) → (xs : List A) → every test xs ≡ is_none (first xs)
unfolding every
all_known test look first same nil cons [] = rw nil
all_known test look first same nil cons (x ∷ xs) =
    rw (same x, all_known test look first same nil cons xs, cons x xs) (neither (look x) (first xs))

functions-known : (t : Table) (fs : List Function) → functions_known t fs ≡ is_none (unknown_in t fs)
unfolding unknown_in unknown_in_sentences
functions-known t =
    all_known (λ f. sentences_known t f.sentences) (λ f. unknown_in_sentences t f.sentences) (unknown_in t)
    (λ f.
    all_known (λ s. calls_known t s.expression) (λ s. unknown_call t s.expression) (unknown_in_sentences t) (λ s. calls-known t s.expression)
    refl
    (λ s ss. refl) f.sentences)
    refl (λ f fs. refl)

-- THE TEXT

-- a text that the grammar and the limits allow, with its tree
pub record Allows (text : Bytes) (t : Table) : Type 0 where
  pub short : length text ≤ max_table
  pub derived : IsProgram (tokens text) t
  pub within : allowed t ≡ true

pub no-refusal : {A : Type 0} (n k : ℕ) (t : Table) → refused n k ≡ accepted t → A
no-refusal n k t e = let z : ◌≡◌ {A = ℕ} 0 1 = cc in absurd (omega arith)

known-accepted : (o : Option ℕ) (t u : Table) → known o t ≡ accepted u → (o ≡ none) × (t ≡ u)
known-accepted none t u e = (refl, cc)
known-accepted (some place) t u e = no-refusal 8 place u e

verdict-accepted : (r : Parsed Table) (u : Table) → verdict r ≡ accepted u
    → (rest : List Placed) × (r ≡ parsed u rest) × (unknown_in u u ≡ none)
verdict-accepted (stopped n k) u e = no-refusal n k u e
verdict-accepted (parsed t rest) u e =
    let k = known-accepted (unknown_in t t) t u e in
    let same = k.1 in
    (rest, ap (λ z. parsed z rest) same, rw same at k.0)

allowed-parts : (t : Table) → every allowed_function t ≡ true → distinct (names_of t) ≡ true → length t ≤ max_functions →
    sentences_in t ≤ max_sentences
    → unknown_in t t ≡ none → allowed t ≡ true
allowed-parts t a d l s n =
    both_true a (both_true d (both_true (le-leb (length t) max_functions l)
    (both_true (le-leb (sentences_in t) max_sentences s) (functions-known t t ∙ ap is_none n))))

-- the tree that reading finds is derived and allowed
functions-allow : (text : Bytes) (t : Table) (rest : List Placed) → every is_byte text ≡ true → length text ≤ max_table
    → parse_functions max_functions max_sentences [] (tokens text) ≡ parsed t rest → unknown_in t t ≡ none → Allows text t
unfolding distinct
functions-allow text t rest s l e n =
    let r = functions-sound max_functions max_sentences [] (tokens text) t rest (tokens-sound (suc (length text)) outside 0 text s) refl e in
    let same = r.whole in
    record {
      short = l;
      derived = rw same r.derived;
      within = allowed-parts t (rw same r.allowed) r.different (rw same r.few) (rw same r.short) n;
    }

read_step : (text : Bytes) (t : Table) (b : Bool) → leb (length text) max_table ≡ b → every is_byte text ≡ true
    → verdict (pick b (parse_functions max_functions max_sentences [] (tokens text)) (stopped 1 0)) ≡ accepted t → Allows text t
read_step text t true p s e =
    let v = verdict-accepted (parse_functions max_functions max_sentences [] (tokens text)) t e in
    functions-allow text t v.0 s (leb-true (length text) max_table p) v.1 v.2
read_step text t false p s e = no-refusal 1 0 t e

pub accepted-allows : (text : Bytes) (t : Table) → every is_byte text ≡ true → read text ≡ accepted t → Allows text t
accepted-allows text t s e = read_step text t (leb (length text) max_table) refl s e

-- what is derived and allowed is the tree that reading finds
pub allows-accepted : (text : Bytes) (t : Table) → Allows text t → read text ≡ accepted t
allows-accepted text t a =
    let within = a.within in
    let a₁ = both_right (every allowed_function t) _ within in
    let a₂ = both_right (distinct (names_of t)) _ a₁ in
    let a₃ = both_right (leb (length t) max_functions) _ a₂ in
    rw (
      le-leb (length text) max_table a.short,
      functions-complete max_functions max_sentences [] a.derived
          (both_left (every allowed_function t) _ within)
          (both_left (distinct (names_of t)) _ a₁)
          (leb-true (length t) max_functions (both_left (leb (length t) max_functions) _ a₂))
          (leb-true (sentences_in t) max_sentences (both_left (leb (sentences_in t) max_sentences) (functions_known t t) a₃)),
      none_found (unknown_in t t) (sym (functions-known t t) ∙ both_right (leb (sentences_in t) max_sentences) (functions_known t t) a₃),
    )
