-- Where a string stands in a text, and the bits by which it is looked for.
use Rattle.std.specs.Prelude.{ℕ, zero, suc, ◌+◌, ◌-◌, ◌*◌, ◌<◌, ◌≡◌, Bool, List, [], ◌∷◌, leb, eqb, length, get_or}
use Rattle.std.specs.Prelude.{drop, Option, Some, None, Result, Ok, Err}
use Rattle.meaning.specs.Choice.{Bytes, pick, both, starts_with}
use Rattle.meaning.specs.Matching.{Found, found_at, found_none, found_wrong, checked, search}
use Rattle.byte_classes.specs.Tests.{byte_count}
use Rattle.run_finding.specs.declared.Unsuited.{Unsuited}

-- the leftmost of so many places from the first on at which the string stands
abbrev pub leftmost_occurrence : Bytes → Bytes → ℕ → ℕ → Found
leftmost_occurrence string text places first = search (λ at. checked (starts_with string (drop at text))) places first

-- where a string stands, or that it isn't looked for
abbrev pub Occurrence : Type 0
Occurrence = Result (Option ℕ) Unsuited

abbrev pub unsuited : Unsuited
unsuited = record {}

abbrev pub occurrence_of : Found → Occurrence
occurrence_of (found_at at) = Ok (Some at)
occurrence_of found_none = Ok None
occurrence_of found_wrong = Err unsuited

-- how many bits a word has
abbrev pub word_bits : ℕ
word_bits = 64

-- the string is not empty and has a bit for each byte, and at each of the places the text has as many bytes
abbrev pub suited : ℕ → ℕ → ℕ → ℕ → Bool
suited size whole places first =
    both (leb 1 size) (both (leb size word_bits) (both (leb size whole) (leb (first + places) (whole - size + 1))))

abbrev pub occurrence : Bytes → Bytes → ℕ → ℕ → Occurrence
occurrence string text places first =
    let found = occurrence_of (leftmost_occurrence string text places first) in
    pick (suited (length string) (length text) places first) found (Err unsuited)

-- BITS

abbrev pub bit : Bool → ℕ
bit b = pick b 1 0

-- the first so many bytes, the last of them first
unfoldable pub backwards : Bytes → ℕ → Bytes
backwards bytes zero = []
backwards bytes (suc n) = get_or bytes n 0 ∷ backwards bytes n

-- the places of a byte, the first of them being bit 0
unfoldable pub occurrence_bits : Bytes → ℕ → ℕ
occurrence_bits [] c = 0
occurrence_bits (x ∷ xs) c = occurrence_bits xs c * 2 + bit (eqb x c)

-- a table that has for each byte its places in the string, the string's last place being bit 0
pub record Marks (string marks : List ℕ) : Type 0 where
  pub each : (c : ℕ) → c < byte_count → get_or marks c 0 ≡ occurrence_bits (backwards string (length string)) c
