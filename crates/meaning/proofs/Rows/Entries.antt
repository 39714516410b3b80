-- What the entry points hand back and leave, for tables and buffers round the length that they need.
use Prim.Native.Nat.{ℕ}
use Prim.Native.String.{String}
use mathlib.Core.Path.{◌≡◌, refl}
use mathlib.Core.List.{[], ◌∷◌, ◌++◌, map}
use lib.ListN.{replicate}
use Rattle.meaning.specs.Choice.{Bytes}
use Rattle.meaning.specs.Reading.{Read, accepted, refused, read}
use Rattle.meaning.specs.Listing.{pattern_text, conditions_text, expression_text, sentences_text, listing}
use Rattle.meaning.specs.Entries.{read_answer, written, translated, listed, run_answer}
use Rattle.meaning.proofs.Rows.Read.{bytes, hold}
use Rattle.meaning.proofs.Rows.Tables.{table_r, table_m}
use Rattle.meaning.proofs.Rows.Starred.{result, abc, lines}
use Rattle.meaning.proofs.Rows.Packed.{words_r}
use Rattle.meaning.proofs.Rows.Computing.{computing}

-- a table refused with 6 at 8
abbrev wrong : Read
wrong = refused 6 8

-- number, place, functions
tables-read : map read_answer (accepted [] ∷ accepted table_r ∷ accepted table_m ∷ wrong ∷ []) ≡
    (0 ∷ 0 ∷ 0 ∷ []) ∷ (0 ∷ 0 ∷ 1 ∷ []) ∷ (0 ∷ 0 ∷ 2 ∷ []) ∷ (6 ∷ 8 ∷ 0 ∷ []) ∷ []
tables-read = refl

-- conditions on an e-variable
parts-read :
    map (λ (s : String). read_answer (read (bytes s)))
    ("F{e1,<IsDigit e1>:'T'=}" ∷ "F{e1,<IsDigit 'a'>:'T'=}" ∷ "F{e1,<IsDigit e123456789>:'T'=}" ∷ "F{e1,<IsFoo e1>:'T'=}"
    ∷ "F{e1,<IsDigit e2>:'T'=}" ∷ [])
    ≡ (0 ∷ 0 ∷ 1 ∷ []) ∷ (3 ∷ 14 ∷ 0 ∷ []) ∷ (4 ∷ 14 ∷ 0 ∷ []) ∷ (5 ∷ 6 ∷ 0 ∷ []) ∷ (7 ∷ 14 ∷ 0 ∷ []) ∷ []
unfolding hold
parts-read = refl

-- number, place, words of code; R has 20 of them. "Words after the code are zero"; a buffer that is too short, or of a refused table, is all zero
tables-translated : map (translated (accepted table_r)) (19 ∷ 20 ∷ 22 ∷ []) ++ translated wrong 3 ∷ [] ≡
    written (17 ∷ 0 ∷ 0 ∷ []) (replicate 19 0)
    ∷ written (0 ∷ 0 ∷ 20 ∷ []) words_r
    ∷ written (0 ∷ 0 ∷ 20 ∷ []) (words_r ++ 0 ∷ 0 ∷ [])
    ∷ written (6 ∷ 8 ∷ 0 ∷ []) (0 ∷ 0 ∷ 0 ∷ [])
    ∷ []
unfolding computing
tables-translated = refl

-- the listing of R has 28 bytes
abbrev listing_r : Bytes
listing_r = bytes "G {\ns1 e2 = <G e2> s1;\n=;\n}\n"

abbrev sevens : ℕ → Bytes
sevens n = replicate n 7

-- number, place, length of the listing. "bytes after a listing are unchanged"; a buffer that is too short, or of a refused table, is as it was
tables-listed : map (λ n. listed (accepted table_r) (sevens n)) (27 ∷ 28 ∷ 30 ∷ []) ++ listed wrong (sevens 3) ∷ [] ≡
    written (17 ∷ 0 ∷ 0 ∷ []) (sevens 27)
    ∷ written (0 ∷ 0 ∷ 28 ∷ []) listing_r
    ∷ written (0 ∷ 0 ∷ 28 ∷ []) (listing_r ++ sevens 2)
    ∷ written (6 ∷ 8 ∷ 0 ∷ []) (sevens 3)
    ∷ []
unfolding pattern_text conditions_text expression_text sentences_text listing
tables-listed = refl

-- answer, function, steps, length of the text, length of the emissions
runs-answered : map run_answer (result 0 0 4 (4 ∷ []) abc lines ∷ result 11 2 5 (2 ∷ 3 ∷ []) [] [] ∷ []) ≡
    (0 ∷ 0 ∷ 4 ∷ 3 ∷ 24 ∷ []) ∷ (11 ∷ 2 ∷ 5 ∷ 0 ∷ 0 ∷ []) ∷ []
runs-answered = refl
