-- A pattern's tests and its different s-variables, as they are written piece by piece.
use Rattle.std.specs.Prelude.{ℕ, ◌+◌, ◌-◌, ◌≤◌, ◌<◌, ◌^◌, ◌≡◌, ◌/◌, ◌%◌}
use Rattle.std.specs.Prelude.{Bool, true, false, eqb}
use Rattle.std.specs.Prelude.{List, [], ◌∷◌, map, length, take, drop, Option, Some, None, MatchOption}
use Rattle.std.specs.List.{All, AllWithin, HoldsAt}
use Rattle.std.proofs.Math.Option.{Option as Found, none, some}
use Rattle.meaning.specs.Allowed.{max_letters}
use Rattle.meaning.specs.Choice.{Name, Named, same_bytes}
use Rattle.meaning.specs.Tree.{Element, letter, part}
use Rattle.meaning.specs.Instructions.{Site as MeantSite, from_start, from_end, from_place, store}
use Rattle.meaning.specs.Translation.{Tested, tested_letter}
use Rattle.meaning.specs.Packing.{Words, test_word, store_word}
use Rattle.tape_layout.specs.Tape.{condition_truth}
use Rattle.tape_words.specs.declared.tape.Parts.{Parts}
use Rattle.tape_words.specs.declared.tape.Parts.TheVariants.{Zero, One, Two}
use Rattle.code_patterns.specs.declared.pattern.Lengths.{Lengths}
use Rattle.code_patterns.specs.declared.sites.Register.{Register}
use Rattle.code_patterns.specs.declared.sites.Register.TheVariants.{Start, End, Place}
use Rattle.code_patterns.specs.declared.sites.Site.{Site}
use Rattle.code_patterns.specs.declared.symbols.Symbol.{Symbol}
use Rattle.code_patterns.specs.declared.tests.Tests.{Tests}
use Rattle.tape_words.specs.Words.{head_name}
use Rattle.code_patterns.specs.Scans.{Scan, scanned, one_more, pattern_on_tape, pattern_at}
use Rattle.code_words.specs.declared.CodeWriter.{CodeWriter}
use Rattle.code_words.specs.Writer.{Written, StillToWrite}

-- THE CELLS

-- the cell so far from a register
abbrev pub site_in : Register → ℕ → MeantSite
site_in Start o = from_start o
site_in End o = from_end o
site_in Place o = from_place o

abbrev pub site_meant : Site → MeantSite
site_meant s = site_in s.register s.offset

-- a cell's offset is no larger than a pattern's, which has so many letters at most
abbrev pub SmallSite : Site → Type 0
SmallSite s = s.offset ≤ max_letters

abbrev pub site_found : Option Site → Found MeantSite
site_found None = none
site_found (Some s) = some (site_meant s)

-- the truth value that a condition's word carries
abbrev pub expected_in : ℕ → Bool
expected_in carried = eqb (carried / condition_truth % 2) 1

-- the length of the last template
abbrev pub last_of : Parts → Lengths → ℕ
last_of Zero l = l.first
last_of One l = l.second
last_of Two l = l.third

-- the cell of a template's letter, by how many e-variables there are, and come before it
abbrev pub site_by : Parts → Parts → ℕ → ℕ → MeantSite
site_by parts Zero last o = from_start o
site_by Zero One last o = from_end (last - o)
site_by One One last o = from_end (last - o)
site_by Two One last o = from_place o
site_by parts Two last o = from_end (last - o)

abbrev pub site_at : Lengths → Parts → ℕ → MeantSite
site_at l template o = site_by l.parts template (last_of l.parts l) o

-- THE DIFFERENT S-VARIABLES

abbrev pub symbol_name : List ℕ → Symbol → Name
symbol_name ws s = head_name ws s.head

-- with their cells
abbrev pub held : List ℕ → List Symbol → List (Named MeantSite)
held ws symbols = map (λ s. record { name = symbol_name ws s; value = site_meant s.site }) symbols

-- the store of one
abbrev pub store_of : Symbol → ℕ
store_of s = store_word (store (site_meant s.site))

-- one has a name, or has not
abbrev pub HasName : List ℕ → Name → Symbol → Type 0
HasName ws n s = same_bytes n (symbol_name ws s) ≡ true

abbrev pub LacksName : List ℕ → Name → Symbol → Type 0
LacksName ws n s = same_bytes n (symbol_name ws s) ≡ false

-- the place of the first that has it, where one has
abbrev pub IsFirstNamed : List ℕ → List Symbol → Name → Option ℕ → Type 0
IsFirstNamed ws symbols n r =
    MatchOption r (AllWithin (LacksName ws n) symbols 0 (length symbols))
    (λ k. (k < length symbols) × HoldsAt (HasName ws n) symbols k × AllWithin (LacksName ws n) symbols 0 k)

-- the cell of each is small
abbrev pub AllSmall : List Symbol → Type 0
AllSmall symbols = All (λ s. SmallSite s.site) symbols

-- THE TESTS

-- the tests of a pattern's letters, from an offset in a template on
unfoldable pub walk : Lengths → Parts → ℕ → List Element → Tested → Tested
walk l template o [] d = d
walk l template o (letter c ∷ es) d = walk l template (o + 1) es (tested_letter c (site_at l template o) d)
walk l template o (part x ∷ es) d = walk l (one_more template) 0 es d

abbrev pub start_from : List (Named MeantSite) → Tested
start_from sites = record { tests = []; sites = sites }

-- what is still to be tested, and the words after the pattern; and what that is at its end
abbrev pub known_so_far : List ℕ → List Symbol → Tests → List (Named MeantSite)
known_so_far ws symbols t = held ws (take t.symbols symbols)

abbrev pub testing : List ℕ → Lengths → List Symbol → Tests → Scan Tested
testing ws l symbols t =
    let p = pattern_on_tape t.letters t.parts 0 (drop t.next ws) in
    scanned (walk l t.parts t.offset p.value (start_from (known_so_far ws symbols t))) p.rest

abbrev pub tests_over : List ℕ → List Symbol → Tests → Scan Tested
tests_over ws symbols t = scanned (start_from (known_so_far ws symbols t)) (drop t.next ws)

abbrev pub test_words : Scan Tested → Words
test_words s = map test_word s.value.tests

pub record InTests (ws : List ℕ) (symbols : List Symbol) (t : Tests) (at : ℕ) : Type 0 where
  pub room : length symbols ≡ max_letters
  pub letters : t.letters ≤ max_letters
  pub offset : t.offset ≤ t.letters
  pub few : t.symbols ≤ t.letters
  pub next : t.next ≤ length ws
  pub place : at < 2 ^ 60 + t.letters

-- a step keeps what the tests come to, and goes on
pub record TestsOn (ws : List ℕ) (l : Lengths) (symbols : List Symbol) (w : CodeWriter) (t : Tests)
    (symbols' : List Symbol) (w' : CodeWriter) (r : Tests) : Type 0 where
  pub same : StillToWrite w (test_words (testing ws l symbols t)) w' (test_words (testing ws l symbols' r))
  pub known : (testing ws l symbols' r).value.sites ≡ (testing ws l symbols t).value.sites
  pub rest : (testing ws l symbols' r).rest ≡ (testing ws l symbols t).rest
  pub within : InTests ws symbols' r w'.at
  pub ahead : t.next < r.next
  pub grown : w'.at + t.letters ≤ w.at + r.letters

-- such a step, after which the cells that are kept are small if they were so before
pub record SmallTestsOn (ws : List ℕ) (l : Lengths) (symbols : List Symbol) (w : CodeWriter) (t : Tests)
    (symbols' : List Symbol) (w' : CodeWriter) (r : Tests) : Type 0 where
  pub on : TestsOn ws l symbols w t symbols' w' r
  pub small : AllSmall symbols → AllSmall symbols'

-- the pattern ends there: nothing is left, and nothing is written
pub record TestsEnd (ws : List ℕ) (l : Lengths) (symbols : List Symbol) (w : CodeWriter) (t : Tests)
    (symbols' : List Symbol) (w' : CodeWriter) : Type 0 where
  pub over : testing ws l symbols t ≡ tests_over ws symbols t
  pub still : symbols' ≡ symbols
  pub unwritten : w' ≡ w

-- a piece leads on; where none does, nothing is left
abbrev pub TestsStep : List ℕ → Lengths → List Symbol → CodeWriter → Tests → List Symbol → CodeWriter
    → Option Tests → Type 0
TestsStep ws l symbols w t symbols' w' None = TestsEnd ws l symbols w t symbols' w'
TestsStep ws l symbols w t symbols' w' (Some r) = SmallTestsOn ws l symbols w t symbols' w' r

-- THE STEPS

abbrev pub letter_done : Tests → ℕ → ℕ → Tests
letter_done t symbols size =
    record {
      parts = t.parts;
      offset = t.offset + 1;
      letters = t.letters + 1;
      symbols = symbols;
      next = t.next + 1 + size;
    }

abbrev pub part_done : Tests → ℕ → Tests
part_done t size =
    record {
      parts = one_more t.parts;
      offset = 0;
      letters = t.letters;
      symbols = t.symbols;
      next = t.next + 1 + size;
    }

-- the whole pattern's tests are written, and its different s-variables are known
pub record TestsAll (ws : List ℕ) (l : Lengths) (start : ℕ) (w : CodeWriter) (symbols : List Symbol)
    (w' : CodeWriter) (r : Tests) : Type 0 where
  pub wrote : Written w (map test_word (walk l Zero 0 (pattern_at (drop start ws)).value (start_from [])).tests) w'
  pub known : known_so_far ws symbols r ≡ (walk l Zero 0 (pattern_at (drop start ws)).value (start_from [])).sites
  pub rest : drop r.next ws ≡ (pattern_at (drop start ws)).rest
  pub within : InTests ws symbols r w'.at
  pub grown : w'.at ≤ w.at + max_letters

-- the same, and the cells that are kept are small if they were so before
pub record SmallTestsAll (ws : List ℕ) (l : Lengths) (start : ℕ) (symbols : List Symbol) (w : CodeWriter)
    (symbols' : List Symbol) (w' : CodeWriter) (r : Tests) : Type 0 where
  pub all : TestsAll ws l start w symbols' w' r
  pub small : AllSmall symbols → AllSmall symbols'

-- the length of all templates together
abbrev pub total : Lengths → ℕ
total l = l.first + l.second + l.third
