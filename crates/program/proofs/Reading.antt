-- What a read leaves in a buffer after what it holds already.
use Rattle.std.proofs.Common.{ℕ, ◌≡◌, ◌+◌, ◌-◌, ◌≤◌, List, ◌++◌, length, take, drop, Option, sym, ap, ◌∙◌, subst, le_refl, drop_at, length-take-le}
use Rattle.std.proofs.lemmas.Slice.{take-put_mid_below}
use Rattle.std.specs.Io.KnownBytes.{Consumes, Keeps}
use Rattle.std.proofs.KnownBytes.{Consumes-trans, Consumes-kept}
use borrow.Rule.Slice.PartMut.{put_mid, post_of}
use lib.Seq.{take-add, take-append-le}

module _ (a b c : Option (List ℕ)) (i : ℕ) (held new : List ℕ) (within : i ≤ length held) (before : Consumes a b (take i held)) where
  abbrev left : List ℕ
  left = put_mid i (length held - i) held new

  -- the first of the new bytes follow those that were held
  pub read_more : (n : ℕ) → n ≤ length new → Consumes b c (take n new) → Consumes a c (take (i + n) left)
  read_more n fits more =
      let after = post_of i (length held - i) held in
      let front : take i left ≡ take i held = take-put_mid_below _ _ _ _ i (le_refl i) within in
      let back : take n (drop i left) ≡ take n new =
      ap (take n) (drop_at (take i held) (new ++ after) i (length-take-le i held within)) ∙ take-append-le n new after fits in
      let joined : take (i + n) left ≡ take i held ++ take n new =
      take-add i n left ∙ ap (λ l. l ++ take n (drop i left)) front ∙ ap (λ l. take i held ++ l) back in
      subst (Consumes a c) (sym joined) (Consumes-trans a b c _ _ before more)

  -- a read that fails takes none
  pub read_none : Keeps b c → Consumes a c (take i left)
  read_none kept =
      subst (Consumes a c) (sym (take-put_mid_below _ _ _ _ i (le_refl i) within)) (Consumes-kept a b c _ before kept)
