-- What each entry point hands back and leaves in what it was lent: demand 1, and 01 'Where each thing is checked'.
-- Answers are words in the order in which the entry point writes them; words that a refusal leaves without meaning are
-- 0.
use Rattle.std.specs.Prelude.{ℕ, List, [], ◌∷◌, leb, length}
use Rattle.std.proofs.Math.Option.{Option, none, some}
use Rattle.meaning.specs.Choice.{Bytes, pick}
use Rattle.meaning.specs.Answers.{finished, buffer_too_short, not_tail_call}
use Rattle.meaning.specs.Reading.{Read, accepted, refused}
use Rattle.meaning.specs.Listing.{listing}
use Rattle.meaning.specs.Translation.{translate}
use Rattle.meaning.specs.Flat.{nested_in, leftmost}
use Rattle.meaning.specs.Packing.{Words, pack}
use Rattle.meaning.specs.Outcome.{Result}
use Rattle.meaning.specs.Leaving.{zeros, padded, over}

-- number, place, and what the entry point counts
abbrev pub answered : ℕ → ℕ → ℕ → List ℕ
answered number place count = number ∷ place ∷ count ∷ []

-- read: number, place, functions
abbrev pub read_answer : Read → List ℕ
read_answer (accepted t) = answered finished 0 (length t)
read_answer (refused number place) = answered number place 0

-- flat: number, place, functions. 19 comes after 1 to 8, and has its place
abbrev pub flatness : Option ℕ → ℕ → List ℕ
flatness none functions = answered finished 0 functions
flatness (some place) functions = answered not_tail_call place 0

abbrev pub flat_answer : Read → List ℕ
flat_answer (accepted t) = flatness (leftmost (nested_in t)) (length t)
flat_answer (refused number place) = answered number place 0

-- an answer, and what a lent buffer holds after it
pub record Written : Type 0 where
  pub answer : List ℕ
  pub buffer : List ℕ

abbrev pub written : List ℕ → List ℕ → Written
written answer buffer = record { answer = answer; buffer = buffer }

-- "A refused table leaves the code buffer all zero", "Words after the code are zero"; a code buffer that is too short
-- is all zero too
abbrev pub translated_words : Words → ℕ → Written
translated_words words room =
    pick (leb (length words) room)
    (written (answered finished 0 (length words)) (padded words room))
    (written (answered buffer_too_short 0 0) (zeros room))

-- translate: number, place, words of code
abbrev pub translated : Read → ℕ → Written
translated (accepted t) room = translated_words (pack (translate t)) room
translated (refused number place) room = written (answered number place 0) (zeros room)

-- "after this or any of 1 to 8 a listing buffer is unchanged"; "bytes after a listing are unchanged"
abbrev pub listed_bytes : Bytes → Bytes → Written
listed_bytes bytes old =
    pick (leb (length bytes) (length old))
    (written (answered finished 0 (length bytes)) (over bytes old))
    (written (answered buffer_too_short 0 0) old)

-- list: number, place, length of the listing
abbrev pub listed : Read → Bytes → Written
listed (accepted t) old = listed_bytes (listing t) old
listed (refused number place) old = written (answered number place 0) old

-- run: answer, function, steps, length of the text, length of the emissions
abbrev pub run_answer : Result → List ℕ
run_answer r = r.answer ∷ r.function ∷ r.steps ∷ length r.text ∷ length r.emissions ∷ []
