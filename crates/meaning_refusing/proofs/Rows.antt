-- Worked rows of refused texts: where two faults stand at one token, where a lower number stands further right, and each limit with its last accepted
-- and its first refused value.
use Prim.Native.Nat.{ℕ}
use mathlib.Core.Path.{◌≡◌, refl}
use mathlib.Core.List.{List, [], ◌∷◌, ◌++◌, map}
use mathlib.Core.Option.{Option, none, some}
use lib.Dec.{leb}
use Rattle.meaning.specs.Choice.{Bytes, pick, every}
use Rattle.meaning.specs.Allowed.{parted, distinct}
use Rattle.meaning.specs.Tokens.{Placed, tokens}
use Rattle.meaning.specs.Reading.{Read, accepted, refused, read}
use Rattle.meaning.proofs.Rows.Read.{bytes, again, hold}
use Rattle.meaning_refusing.specs.Looking.{before_first, past_first, after_last, count, names_from, begun_from, elements_in}
use Rattle.meaning_refusing.specs.Faults.{Quota, quota_after, coming_after_each, unknown_from, undeclared}
use Rattle.meaning_refusing.proofs.Stages.{run}
use Rattle.meaning_refusing.proofs.Computed.{faults_of}

-- a text with its number and place, 0 and 0 where it is accepted; the faults of its tokens up to that place, and of all of them; its first
-- undeclared call
pub record Row : Type 0 where
  pub text : Bytes
  pub number : ℕ
  pub place : ℕ
  pub there : List ℕ
  pub whole : List ℕ
  pub unknown : Option ℕ

abbrev row : Bytes → ℕ → ℕ → List ℕ → List ℕ → Option ℕ → Row
row text number place there whole unknown =
    record { text = text; number = number; place = place; there = there; whole = whole; unknown = unknown }

-- the tokens up to a place
abbrev up_to : ℕ → List Placed → List Placed
up_to place [] = []
up_to place (t ∷ ts) = pick (leb t.place place) (t ∷ up_to place ts) []

abbrev answered : Read → (ℕ → ℕ → Row) → Row
answered (accepted t) next = next 0 0
answered (refused n k) next = next n k

-- every definition on the way to a row's numbers
unfoldable faults_among : Quota → List Placed → List ℕ
unfolding hold every distinct parted before_first past_first after_last count names_from begun_from elements_in coming_after_each run
faults_among quota ts = faults_of quota ts

unfoldable computed : Bytes → Row
unfolding hold faults_among names_from unknown_from
computed text =
    let quota = quota_after 0 0 in
    answered (read text)
    (λ n k. row text n k (faults_among quota (up_to k (tokens text))) (faults_among quota (tokens text)) (undeclared (tokens text)))

abbrev hold-so : List Row → Type 0
hold-so rows = map (λ (r : Row). computed r.text) rows ≡ rows

-- Two faults at one token: the lower number decides. An undeclared call counts only where reading ends, so that every other fault at it decides.
at-one-token :
    hold-so
    (row (bytes "'a") 2 0 (2 ∷ 3 ∷ []) (2 ∷ 3 ∷ []) none
    ∷ row (bytes "F{e1'a'e2 e1=}") 3 10 (3 ∷ 6 ∷ []) (3 ∷ []) none
    ∷ row (bytes "EmitABCDEFGHIJKLMNOPQRSTU{=}") 4 0 (4 ∷ 5 ∷ []) (4 ∷ 5 ∷ []) none
    ∷ row (bytes "F{e1'" ++ (again 64 "a" ++ bytes "'s1=}")) 4 70 (4 ∷ 6 ∷ []) [] none
    ∷ row (bytes "F{='" ++ (again 128 "a" ++ bytes "'s1}")) 4 133 (4 ∷ 7 ∷ []) [] none
    ∷ row (bytes "F{=<" ++ (again 25 "a" ++ bytes ">}")) 4 4 (4 ∷ []) (4 ∷ []) (some 4)
    ∷ row (bytes "F{s1,<G s1>:'T'=}") 5 6 (5 ∷ []) [] (some 6)
    ∷ row (bytes "F{s1,<DmAdd s1>:'T'=}") 5 6 (5 ∷ []) [] none
    ∷ row (bytes "F{=}DmSub{=}") 5 4 (5 ∷ []) (5 ∷ []) none
    ∷ [])
unfolding computed
at-one-token = refl

-- A lower number further right: the leftmost token decides. Only 8 gives way to every fault that stands at a token.
further-right :
    hold-so
    (row (bytes "F}'a") 3 1 (3 ∷ []) (2 ∷ 3 ∷ []) none
    ∷ row (again 25 "a" ++ bytes "{}") 4 0 (4 ∷ []) (3 ∷ 4 ∷ []) none
    ∷ row (bytes "Emit{}") 5 0 (5 ∷ []) (3 ∷ 5 ∷ []) none
    ∷ row (bytes "F{e1 s1='\\256'}") 6 5 (6 ∷ []) (2 ∷ 3 ∷ 6 ∷ []) none
    ∷ row (bytes "F{=s1 'a") 7 3 (7 ∷ []) (2 ∷ 3 ∷ 7 ∷ []) none
    ∷ row (bytes "F{=<G>}'a") 2 7 (2 ∷ 3 ∷ []) (2 ∷ 3 ∷ []) (some 4)
    ∷ row (bytes "F{=<G>}G{=s1}") 7 10 (7 ∷ []) [] none
    ∷ [])
unfolding computed
further-right = refl

-- names are looked up among all that are declared, and the first unknown one decides
after-reading :
    hold-so
    (row (bytes "F{=<G>}") 8 4 [] [] (some 4)
    ∷ row (bytes "F{=<G><H>}") 8 4 [] [] (some 4)
    ∷ row (bytes "F{=<G>}G{=<H>}") 8 11 [] [] (some 11)
    ∷ row (bytes "F{=<EmitA>}") 0 0 [] [] none
    ∷ row (bytes "F{=<DmAdd><DmSub>}") 0 0 [] [] none
    ∷ row (bytes "F{=<DmAdd2>}") 8 4 [] [] (some 4)
    ∷ [])
unfolding computed
after-reading = refl

-- each limit: the last accepted value and the first refused
limits :
    hold-so
    (row (again 24 "a" ++ bytes "{=}") 0 0 [] [] none
    ∷ row (again 25 "a" ++ bytes "{=}") 4 0 (4 ∷ []) (4 ∷ []) none
    ∷ row (bytes "F{s12345678 e12345679=}") 0 0 [] [] none
    ∷ row (bytes "F{s123456789=}") 4 2 (4 ∷ []) (4 ∷ []) none
    ∷ row (bytes "F{e123456789=}") 4 2 (4 ∷ []) (4 ∷ []) none
    ∷ row (bytes "F{'" ++ (again 64 "a" ++ bytes "'=}")) 0 0 [] [] none
    ∷ row (bytes "F{'" ++ (again 65 "a" ++ bytes "'=}")) 4 2 (4 ∷ []) [] none
    ∷ row (bytes "F{sa sb sc sd se sf sg sh si sj sk sl sm sn so sp=}") 0 0 [] [] none
    ∷ row (bytes "F{sa sb sc sd se sf sg sh si sj sk sl sm sn so sp sq=}") 4 50 (4 ∷ []) [] none
    ∷ row (bytes "F{s1" ++ (again 8 ",<IsDigit s1>:'T'" ++ bytes "=}")) 0 0 [] [] none
    ∷ row (bytes "F{s1" ++ (again 9 ",<IsDigit s1>:'T'" ++ bytes "=}")) 4 140 (4 ∷ []) [] none
    ∷ row (bytes "F{='" ++ (again 127 "a" ++ bytes "'<F>}")) 0 0 [] [] none
    ∷ row (bytes "F{='" ++ (again 128 "a" ++ bytes "'<F>}")) 4 133 (4 ∷ []) [] none
    ∷ row (bytes "F{=" ++ (again 16 "<F" ++ (again 16 ">" ++ bytes "}"))) 0 0 [] [] none
    ∷ row (bytes "F{=" ++ (again 17 "<F" ++ (again 17 ">" ++ bytes "}"))) 4 35 (4 ∷ []) [] none
    ∷ [])
unfolding computed
limits = refl

-- In conditions an e-variable is looked for among the pattern's: 4 comes before 7 at it, 5 stands at the predicate before it, and what is no variable
-- is 3. No order is asked there, no e-variable is used up, and both are asked of the expression as before.
in-conditions :
    hold-so
    (row (bytes "F{e1,<IsDigit e1>:'T'=e1}") 0 0 [] [] none
    ∷ row (bytes "F{e1'a'e2,<IsDigit e2>:'T',<IsDigit e1>:'F',<IsUpper e2>:'F'=e1 e2}") 0 0 [] [] none
    ∷ row (bytes "F{e1,<IsDigit 'a'>:'T'=}") 3 14 (3 ∷ []) (3 ∷ []) none
    ∷ row (bytes "F{e1,<IsDigit e1 e1>:'T'=}") 3 17 (3 ∷ []) (3 ∷ []) none
    ∷ row (bytes "F{e1,<IsDigit e123456789>:'T'=}") 4 14 (4 ∷ 7 ∷ []) (4 ∷ []) none
    ∷ row (bytes "F{e1,<IsFoo e2>:'T'=}") 5 6 (5 ∷ []) [] (some 6)
    ∷ row (bytes "F{e1,<IsDigit e2>:'T'=}") 7 14 (7 ∷ []) [] none
    ∷ row (bytes "F{sX,<IsDigit eX>:'T'=}") 7 14 (7 ∷ []) [] none
    ∷ row (bytes "F{eX,<IsDigit sX>:'T'=}") 7 14 (7 ∷ []) [] none
    ∷ row (bytes "F{e1'a'e2,<IsDigit e1>:'T'=e2 e1}") 7 30 (7 ∷ []) [] none
    ∷ [])
unfolding computed
in-conditions = refl

-- of functions and of sentences, where few are left
few : Quota
few = quota_after 62 509

few_faults : Bytes → List ℕ
unfolding hold faults_among few
few_faults text = faults_among few (tokens text)

quotas : map few_faults (bytes "A{=;=}B{=}" ∷ bytes "A{=}B{=}C{=}" ∷ bytes "A{=;=}B{=;=}" ∷ []) ≡ [] ∷ (4 ∷ []) ∷ (4 ∷ []) ∷ []
unfolding few_faults
quotas = refl
