-- The readers of a function's sentences and of the functions read exactly what the grammar and the limits allow.
use Prim.Native.Nat.{ℕ, zero, suc, ◌≤◌}
use mathlib.Core.Path.{◌≡◌, refl, ◌∙◌, subst}
use mathlib.Core.Bool.{Bool, true, false}
use mathlib.Core.List.{List, [], ◌∷◌}
use native.Mathlib.Omega.{arith}
use borrow.Author.Tests.{eqb-true}
use lib.Dec.{eqb}
use lib.ListN.{length}
use Rattle.meaning.specs.Choice.{pick, either, every}
use Rattle.meaning.specs.Tree.{Sentence}
use Rattle.meaning.specs.Allowed.{allowed_sentence}
use Rattle.meaning.specs.Tokens.{Token, function_name, word, quoted, sign, text_end, malformed, Placed}
use Rattle.meaning.specs.Grammar.{standing, IsSentence, IsSentences, last_sentence, last_sentence_parted, sentence_then}
use Rattle.meaning.specs.Reading.{Parsed, stopped, parsed, follow, whether, is_sign, begins, parse_sentence, at_sentence, after_semicolon}
use Rattle.meaning.specs.Reading.{after_sentence}
use Rattle.meaning.specs.Reading.{parse_sentences}
use Rattle.meaning_accepting.proofs.Reading.Basics.{both_left, both_right, both_true, impossible, never_both, whether-parsed, Followed}
use Rattle.meaning_accepting.proofs.Reading.Basics.{follow-parsed, sign_of, standing-as}
use Rattle.meaning_accepting.proofs.Reading.Sound.{sound_tokens, sound-rest}
use Rattle.meaning_accepting.proofs.Reading.ExpressionsComplete.{ends_with}
use Rattle.meaning_accepting.proofs.Reading.Sentences.{SentenceRead, sentence-sound, sentence-complete, Begins, sentence-begins}

-- SENTENCES

pub record SentencesRead (left : ℕ) (ts : List Placed) (ss : List Sentence) (rest : List Placed) : Type 0 where
  pub derived : IsSentences ts ss rest
  pub allowed : every allowed_sentence ss ≡ true
  pub few : length ss ≤ left
  pub sound : sound_tokens rest ≡ true

abbrev pub joined : Sentence → List Sentence → List Placed → Parsed (List Sentence)
joined s ss rest = parsed (s ∷ ss) rest

abbrev pub More : Type 0
More = List Placed → Parsed (List Sentence)

module _ (left : ℕ) (more : More)
    (later : (ts : List Placed) (ss : List Sentence) (rest : List Placed)
    → sound_tokens ts ≡ true → more ts ≡ parsed ss rest → SentencesRead left ts ss rest)
    {ts : List Placed} (s : Sentence) {ss : List Sentence} {rest : List Placed}
  where
    one-sentence : allowed_sentence s ≡ true → (s ∷ []) ≡ ss → (tail : List Placed) → tail ≡ rest → sound_tokens tail ≡ true
        → IsSentences ts (s ∷ []) tail → SentencesRead (suc left) ts ss rest
    unfolding every
    one-sentence a e tail l t d =
        record {
          derived = rw (← e, ← l) d;
          allowed = rw (← e) (both_true a refl);
          few = rw (← e) (omega arith);
          sound = rw (← l) t;
        }

    -- after `;`
    another-sentence : (semicolon : Placed) (us : List Placed) → semicolon.token ≡ sign 59 → allowed_sentence s ≡ true
        → IsSentence ts s (semicolon ∷ us)
        → (f : Followed (List Sentence) (List Sentence) (more us) (joined s) ss rest)
        → SentencesRead left us f.value f.between
        → SentencesRead (suc left) ts ss rest
    unfolding every
    another-sentence semicolon us o a d f r =
        let end = f.after in
        let whole : s ∷ f.value ≡ ss = cc in
        let rest-same : f.between ≡ rest = cc in
        let few = r.few in
        record {
          derived = rw (← whole, ← rest-same) (sentence_then (subst (λ z. IsSentence ts s (z ∷ us)) (standing-as semicolon o) d) r.derived);
          allowed = rw (← whole) (both_true a r.allowed);
          few = rw (← whole) (omega arith);
          sound = rw rest-same at r.sound;
        }

    semicolon-step : (semicolon t : Placed) (us : List Placed) (b : Bool) → is_sign 125 t.token ≡ b → semicolon.token ≡ sign 59 →
        allowed_sentence s ≡ true
        → sound_tokens (t ∷ us) ≡ true → IsSentence ts s (semicolon ∷ t ∷ us)
        → pick b (parsed (s ∷ []) us) (follow (more (t ∷ us)) (joined s)) ≡ parsed ss rest
        → SentencesRead (suc left) ts ss rest
    semicolon-step semicolon t us true p o a k d e =
        one-sentence a (cc) us (cc) (sound-rest t us k)
        (last_sentence_parted
        (subst (λ z. IsSentence ts s (z ∷ standing (sign 125) t.place t.past ∷ us)) (standing-as semicolon o)
        (subst (λ z. IsSentence ts s (semicolon ∷ z ∷ us)) (standing-as t (sign_of 125 t.token p)) d)))
    semicolon-step semicolon t us false p o a k d e =
        let f = follow-parsed (more (t ∷ us)) (joined s) e in
        another-sentence semicolon (t ∷ us) o a d f (later (t ∷ us) f.value f.between k f.before)

    after-semicolon : (semicolon : Placed) (us : List Placed) → semicolon.token ≡ sign 59 → allowed_sentence s ≡ true
        → sound_tokens us ≡ true → IsSentence ts s (semicolon ∷ us)
        → after_semicolon more s us ≡ parsed ss rest
        → SentencesRead (suc left) ts ss rest
    after-semicolon semicolon [] o a k d e = never_both 0 0 ss rest e
    after-semicolon semicolon (t ∷ us) o a k d e = semicolon-step semicolon t us (is_sign 125 t.token) refl o a k d e

    sentence-step : (t : Placed) (us : List Placed) (b : Bool) → is_sign 125 t.token ≡ b → allowed_sentence s ≡ true
        → sound_tokens (t ∷ us) ≡ true → IsSentence ts s (t ∷ us)
        → pick b (parsed (s ∷ []) us) (whether (is_sign 59 t.token) t (after_semicolon more s us)) ≡ parsed ss rest
        → SentencesRead (suc left) ts ss rest
    sentence-step t us true p a k d e =
        one-sentence a (cc) us (cc) (sound-rest t us k)
        (last_sentence (subst (λ z. IsSentence ts s (z ∷ us)) (standing-as t (sign_of 125 t.token p)) d))
    sentence-step t us false p a k d e =
        let (there, after) = whether-parsed (is_sign 59 t.token) t (after_semicolon more s us) e in
        after-semicolon t us (sign_of 59 t.token there) a (sound-rest t us k) d after

    after-sentence : (us : List Placed) → SentenceRead ts s us → after_sentence more s us ≡ parsed ss rest → SentencesRead (suc left) ts ss rest
    after-sentence [] r e = never_both 0 0 ss rest e
    after-sentence (t ∷ us) r e = sentence-step t us (is_sign 125 t.token) refl r.allowed r.sound r.derived e

at-sentence : (ts : List Placed) (next : Placed → Parsed (List Sentence)) {ss : List Sentence} {rest : List Placed}
    → at_sentence ts next ≡ parsed ss rest → (t : Placed) × (next t ≡ parsed ss rest)
at-sentence [] next {ss} {rest} e = never_both 0 0 ss rest e
at-sentence (t ∷ ts) next e = (t, (whether-parsed (begins t.token) t (next t) e).1)

pub sentences-sound : (left : ℕ) (ts : List Placed) (ss : List Sentence) (rest : List Placed)
    → sound_tokens ts ≡ true → parse_sentences left ts ≡ parsed ss rest → SentencesRead left ts ss rest
unfolding parse_sentences
sentences-sound zero ts ss rest k e =
    let (t, f) = at-sentence ts (λ t. stopped 4 t.place) e in
    never_both 4 t.place ss rest f
sentences-sound (suc left) ts ss rest k e =
    let (t, g) = at-sentence ts (λ t. follow (parse_sentence ts) (λ s ts₁. after_sentence (parse_sentences left) s ts₁)) e in
    let f = follow-parsed (parse_sentence ts) (λ s ts₁. after_sentence (parse_sentences left) s ts₁) g in
    after-sentence left (parse_sentences left) (λ us rs more l h. sentences-sound left us rs more l h) f.value f.between
    (sentence-sound ts k f.before) f.after

at-begins : {ts : List Placed} (b : Begins ts) (next : Placed → Parsed (List Sentence)) → at_sentence ts next ≡ next b.first
at-begins b next = rw (b.shape, b.beginning)

closing-sign : (b : ℕ) (p q : Bool) → eqb b 44 ≡ p → eqb b 61 ≡ q → either p q ≡ true → eqb b 125 ≡ false
closing-sign b true q e f h = rw (eqb-true b 44 e)
closing-sign b false true e f h = rw (eqb-true b 61 f)
closing-sign b false false e f h = impossible h

-- no sentence begins with `}`
begins-open : (token : Token) → begins token ≡ true → is_sign 125 token ≡ false
begins-open (function_name n) e = refl
begins-open (word w) e = refl
begins-open (quoted text) e = refl
begins-open (sign b) e = closing-sign b (eqb b 44) (eqb b 61) refl refl e
begins-open text_end e = refl
begins-open malformed e = refl

sentences-begin : {ts rest : List Placed} {ss : List Sentence} → IsSentences ts ss rest → Begins ts
sentences-begin (last_sentence d) = sentence-begins d
sentences-begin (last_sentence_parted d) = sentence-begins d
sentences-begin (sentence_then d ds) = sentence-begins d

more-sentences : (more : More) (s : Sentence) {ts : List Placed} (b : Begins ts) → after_semicolon more s ts ≡ follow (more ts) (joined s)
more-sentences more s b = rw (b.shape, begins-open b.first.token b.beginning)

-- the first sentence is read
first_read : (left : ℕ) {c place past : ℕ} {ts rest : List Placed} {s : Sentence} → IsSentence ts s (standing (sign c) place past ∷ rest)
    → eqb c 60 ≡ false → allowed_sentence s ≡ true → parse_sentences (suc left) ts ≡
    after_sentence (parse_sentences left) s (standing (sign c) place past ∷ rest)
unfolding parse_sentences
first_read left {c} {place} {past} {ts} {rest} d e a =
    rw (
      at-begins (sentence-begins d) (λ t. follow (parse_sentence ts) (after_sentence (parse_sentences left))),
      sentence-complete d (ends_with c place past rest e) a,
    )

-- sentences that the grammar and the limits allow are read
pub sentences-complete : (left : ℕ) {ts rest : List Placed} {ss : List Sentence} → IsSentences ts ss rest
    → every allowed_sentence ss ≡ true → length ss ≤ left → parse_sentences left ts ≡ parsed ss rest
unfolding parse_sentences every
sentences-complete zero (last_sentence d) a l = absurd (omega arith)
sentences-complete zero (last_sentence_parted d) a l = absurd (omega arith)
sentences-complete zero (sentence_then d ds) a l = absurd (omega arith)
sentences-complete (suc left) (last_sentence {s = s} d) a l = first_read left d refl (both_left (allowed_sentence s) true a)
sentences-complete (suc left) (last_sentence_parted {s = s} d) a l = first_read left d refl (both_left (allowed_sentence s) true a)
sentences-complete (suc left) (sentence_then {s = s} {ss = ss} d ds) a l =
    first_read left d refl (both_left (allowed_sentence s) (every allowed_sentence ss) a)
    ∙ rw (
      more-sentences (parse_sentences left) s (sentences-begin ds),
      sentences-complete left ds (both_right (allowed_sentence s) (every allowed_sentence ss) a) (omega arith),
    )
