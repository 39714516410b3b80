-- The loop over a function's sentences.
use Prim.Native.Nat.{ℕ, zero, suc, ◌+◌, ◌-◌, ◌≤◌, ◌<◌}
use mathlib.Core.Path.{◌≡◌, refl, sym, ◌∙◌, ap}
use mathlib.Core.Bool.{Bool, true, false}
use mathlib.Core.List.{List, [], ◌∷◌, ◌++◌, append_assoc, append-nil}
use native.Mathlib.Omega.{arith}
use lib.ListN.{length, set, length-append}
use Rattle.meaning.specs.Choice.{Bytes}
use Rattle.meaning.specs.Tree.{Sentence}
use Rattle.tape_layout.specs.Tape.{tape_word, next_kind, end_kind, sentence_tape, sentences_tape}
use Rattle.meaning.specs.Tokens as Tokens
use Rattle.meaning.specs.Reading as Reading
use Rattle.meaning.specs.Reading.{Parsed, follow, whether, after_sentence}
use Rattle.meaning.specs.Allowed.{max_table}
use Rattle.read_tokens.specs.View.{stream}
use Rattle.std.specs.Prelude.{Result, Ok, Err}
use Rattle.answers.specs.declared.Fault.{Fault}
use Rattle.read_bookkeeping.specs.declared.progress.Progress.{Progress}
use Rattle.read_functions.specs.declared.sentences.SentencesEnd.{SentencesEnd}
use Rattle.read_functions.specs.declared.sentences.Sequel.{Sequel}
use Rattle.read_functions.specs.declared.sentences.Sequel.TheVariants.{Ends, Another}
use Rattle.read_bookkeeping.specs.Answered.{Agrees}
use Rattle.read_bookkeeping.specs.Written.{Ready, Went}
use Rattle.read_functions.specs.Sentences.{Each, SentenceStands, sentence_within_limit, first_sentence, FirstRead, Follows}
use Rattle.read_functions.specs.Sentences.{SentencesRead}
use Rattle.read_bookkeeping.proofs.Refusing.{word-at-once}
use Rattle.read_bookkeeping.proofs.Going.{stops, reads, ReadAt, has-read, follow-alone, behind, behind_more, went-none, went_then, word-went}
use Rattle.read_bookkeeping.proofs.Going.{ready-after, stops-too}

-- it holds of none, of these and those, and of one more
pub each_none : {A : Type 0} (holds : A → Type 0) → Each holds []
unfolding Each
each_none holds = tt

each_append : {A : Type 0} (holds : A → Type 0) (xs ys : List A) → Each holds xs → Each holds ys → Each holds (xs ++ ys)
unfolding Each
each_append holds [] ys h k = k
each_append holds (x ∷ xs) ys h k = (h.0, each_append holds xs ys h.1 k)

pub each_more : {A : Type 0} (holds : A → Type 0) (xs : List A) (x : A) → Each holds xs → holds x → Each holds (xs ++ x ∷ [])
unfolding Each
each_more holds xs x e h = each_append holds xs (x ∷ []) e (h, tt)

-- THE DEFINITION

whether-follow : {A B : Type 0} (is : Bool) (t : Tokens.Placed) (p : Parsed A) (next : A → List Tokens.Placed → Parsed B)
    → whether is t (follow p next) ≡ follow (whether is t p) next
whether-follow true t p next = refl
whether-follow false t p next = refl

-- the first, and what comes after it
sentences-are : (left : ℕ) (ts : List Tokens.Placed)
    → Reading.parse_sentences left ts ≡ follow (first_sentence left ts) (λ s rest. after_sentence (Reading.parse_sentences (left - 1)) s rest)
unfolding Reading.parse_sentences
sentences-are zero [] = refl
sentences-are zero (t ∷ ts) = whether-follow (Reading.begins t.token) t (sentence_within_limit zero t ts) _
sentences-are (suc left) [] = refl
sentences-are (suc left) (t ∷ ts) =
    let e : suc left - 1 ≡ left = omega arith in
    let after = after_sentence (Reading.parse_sentences left) in
    rw e
    (ap (λ (p : Parsed (List Sentence)). whether (Reading.begins t.token) t p)
    (word-at-once (Reading.parse_sentence (t ∷ ts)) after (λ s w place past rest. refl))
    ∙ whether-follow (Reading.begins t.token) t (sentence_within_limit (suc left) t ts) after)

-- THE TAPE

-- sentences that others follow
unfoldable pub parted_tape : List Sentence → List ℕ
parted_tape [] = []
parted_tape (s ∷ ss) = (sentence_tape s ++ tape_word next_kind 0 ∷ []) ++ parted_tape ss

parted-more : (ss : List Sentence) (s : Sentence) → parted_tape (ss ++ s ∷ []) ≡ parted_tape ss ++ (sentence_tape s ++ tape_word next_kind 0 ∷ [])
unfolding parted_tape
parted-more [] s = append-nil (sentence_tape s ++ tape_word next_kind 0 ∷ [])
parted-more (r ∷ ss) s =
    rw (parted-more ss s)
    (sym (append_assoc (sentence_tape r ++ tape_word next_kind 0 ∷ []) (parted_tape ss) (sentence_tape s ++ tape_word next_kind 0 ∷ [])))

-- a sentence before others
sentences-before : (r : Sentence) (ss : List Sentence) (s : Sentence)
    → sentences_tape (r ∷ (ss ++ s ∷ [])) ≡ (sentence_tape r ++ tape_word next_kind 0 ∷ []) ++ sentences_tape (ss ++ s ∷ [])
unfolding sentences_tape
sentences-before r [] s = sym (append_assoc (sentence_tape r) (tape_word next_kind 0 ∷ []) _)
sentences-before r (q ∷ ss) s = sym (append_assoc (sentence_tape r) (tape_word next_kind 0 ∷ []) _)

parted-last : (ss : List Sentence) (s : Sentence) → sentences_tape (ss ++ s ∷ []) ≡ parted_tape ss ++ (sentence_tape s ++ tape_word end_kind 0 ∷ [])
unfolding parted_tape sentences_tape
parted-last [] s = refl
parted-last (r ∷ ss) s =
    sentences-before r ss s
    ∙ rw (parted-last ss s)
    (sym (append_assoc (sentence_tape r ++ tape_word next_kind 0 ∷ []) (parted_tape ss) (sentence_tape s ++ tape_word end_kind 0 ∷ [])))

parted-none : parted_tape [] ≡ []
unfolding parted_tape
parted-none = refl

-- THE LOOP

-- the sentences from the start are those from here with these before them
pub record Sentenced (text start : List ℕ) (limit from words : ℕ) (tape : List ℕ) (at to left : ℕ) : Type 0 where
  pub before : List Sentence
  pub same : Reading.parse_sentences limit (stream text Tokens.inside from) ≡
      follow (Reading.parse_sentences left (stream text Tokens.inside at)) (behind before)
  pub went : Went text from words start at to tape (parted_tape before)
  pub counted : left + length before ≡ limit
  pub stand : Each SentenceStands before
  pub short : length text ≤ max_table

abbrev SentencesAgree : Bytes → ℕ → ℕ → ℕ → List ℕ → List ℕ → Result SentencesEnd Fault → Type 0
SentencesAgree text limit from words start tape r =
    Agrees (SentencesRead text limit from words start tape) (Reading.parse_sentences limit (stream text Tokens.inside from)) r

pub sentences-start : (text start : List ℕ) (limit from words : ℕ) → Ready text from words →
    Sentenced text start limit from words start from words limit
sentences-start text start limit from words r =
    record {
      before = [];
      same = follow-alone (Reading.parse_sentences limit (stream text Tokens.inside from));
      went = rw parted-none (went-none text from words start r);
      counted = omega arith;
      stand = each_none SentenceStands;
      short = r.short;
    }

module _ {text start : List ℕ} {limit from words : ℕ} {tape : List ℕ} {at to left : ℕ} (k : Sentenced text start limit from words tape at to left)
  where
    pub next-ready : Ready text at to
    next-ready = ready-after k.short k.went

    at-sentence : Reading.parse_sentences limit (stream text Tokens.inside from)
        ≡ follow
        (follow (first_sentence left (stream text Tokens.inside at)) (λ s rest. after_sentence (Reading.parse_sentences (left - 1)) s rest))
        (behind k.before)
    at-sentence = k.same ∙ rw (sentences-are left (stream text Tokens.inside at))

    pub sentence-stops : {tape' : List ℕ} {fault : Fault}
        → Agrees (FirstRead text left at to tape tape') (first_sentence left (stream text Tokens.inside at)) (Err fault)
        → SentencesAgree text limit from words start tape' (Err fault)
    sentence-stops a = stops-too a refl refl (λ h. at-sentence ∙ rw h)

-- a sentence was read after those
pub record OneMore (text start : List ℕ) (limit from words left : ℕ) (tape₁ : List ℕ) (s : Progress) : Type 0 where
  pub tape : List ℕ
  pub at : ℕ
  pub to : ℕ
  pub others : Sentenced text start limit from words tape at to left
  pub read : ReadAt (FirstRead text left at to tape tape₁) (first_sentence left (stream text Tokens.inside at)) s

pub one_more_lem : {text start : List ℕ} {limit from words : ℕ} {tape : List ℕ} {at to left : ℕ} {tape₁ : List ℕ} {s : Progress}
    → Sentenced text start limit from words tape at to left
    → Agrees (FirstRead text left at to tape tape₁) (first_sentence left (stream text Tokens.inside at)) (Ok s)
    → OneMore text start limit from words left tape₁ s
one_more_lem k a = record { tape = _; at = _; to = _; others = k; read = has-read _ _ refl a }

module _ {text start : List ℕ} {limit from words left : ℕ} {tape₁ : List ℕ} {s : Progress} (o : OneMore text start limit from words left tape₁ s)
  where
    abbrev before : List Sentence
    before = o.others.before

    abbrev last : Sentence
    last = o.read.value

    abbrev read-so : FirstRead text left o.at o.to o.tape tape₁ last o.read.rest s
    read-so = o.read.how

    at-sequel : Reading.parse_sentences limit (stream text Tokens.inside from)
        ≡ follow (after_sentence (Reading.parse_sentences (left - 1)) o.read.value (stream text Tokens.inside s.at)) (behind o.others.before)
    at-sequel = at-sentence o.others ∙ rw (o.read.same, read-so.read.tokens)

    -- it was one of those that might come, and the tape is within the text
    pub some_left : 0 < left
    some_left = read-so.some

    pub sequel-ready : Ready text s.at s.words
    sequel-ready = ready-after o.others.short read-so.read.went

    -- with the word after the sentence
    sentence-went : (word : ℕ) {tape' : List ℕ} {further : ℕ} → s.at < further → further ≤ length text → tape' ≡ set tape₁ s.words word
        → Went text from words start further (s.words + 1) tape' (parted_tape before ++ (sentence_tape last ++ word ∷ []))
    sentence-went word h i w = went_then o.others.went (went_then read-so.read.went (word-went sequel-ready h i w))

    counted-more : left - 1 + length (before ++ last ∷ []) ≡ limit
    counted-more = rw (length-append before (last ∷ [])) (omega (arith, o.others.counted, some_left))

    stand-more : Each SentenceStands (before ++ last ∷ [])
    stand-more = each_more SentenceStands before last o.others.stand read-so.read.stands

module _ {text start : List ℕ} {limit from words left : ℕ} {tape₁ : List ℕ} {s : Progress} (one : OneMore text start limit from words left tape₁ s)
  where
    abbrev others : List Sentence
    others = before one

    abbrev newest : Sentence
    newest = last one

    pub sequel-refused : {tape' : List ℕ} {fault : Fault} → Follows text s.at (Err fault) → SentencesAgree text limit from words start tape' (Err fault)
    sequel-refused w = stops (at-sequel one ∙ rw (w.gives (Reading.parse_sentences (left - 1)) newest))

    pub sequel-ends : {tape' : List ℕ} {past : ℕ} → Follows text s.at (Ok (Ends past)) → tape' ≡ set tape₁ s.words 1792
        → SentencesAgree text limit from words start tape' (Ok (record { at = past; words = s.words + 1; left = left - 1 }))
    sequel-ends {past = past} w put =
        let f = w.gives in
        reads (others ++ newest ∷ []) (stream text Tokens.outside past)
        (at-sequel one ∙ rw (f.0 (Reading.parse_sentences (left - 1)) newest))
        (record {
          tokens = refl;
          went = rw (parted-last others newest) (sentence-went one (tape_word end_kind 0) f.1 f.2 put);
          left = counted-more one;
          stand = stand-more one;
        })

    pub sequel-goes : {tape' : List ℕ} {place : ℕ} → Follows text s.at (Ok (Another place)) → tape' ≡ set tape₁ s.words 1536
        → Sentenced text start limit from words tape' place (s.words + 1) (left - 1)
    sequel-goes {place = place} w put =
        let f = w.gives in
        record {
          before = others ++ newest ∷ [];
          same =
              at-sequel one
              ∙ rw (f.0 (Reading.parse_sentences (left - 1)) newest)
              (behind_more others newest (Reading.parse_sentences (left - 1) (stream text Tokens.inside place)));
          went = rw (parted-more others newest) (sentence-went one (tape_word next_kind 0) f.1 f.2 put);
          counted = counted-more one;
          stand = stand-more one;
          short = one.others.short;
        }
