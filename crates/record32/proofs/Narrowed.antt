-- Records at v bits: what is decoded, v bits hold, and encoding is the same. Assumes nothing.
use mathlib.Core.Path.{◌≡◌, refl, sym, ap, subst, ◌∙◌}
use mathlib.Core.Bool.{Bool, true, false, cond, not}
use mathlib.Core.List.{List}
use Prim.Native.Nat.{ℕ, ◌^◌, ◌<◌}
use native.Mathlib.Omega.{arith}
use lib.Pow.{pow_pos}
use lib.ListN.{length}
use Rattle.util_defs.specs.Refusal.{Outcome, answered, refused, unless, Meets}
use Rattle.util_defs.proofs.Refusals.{agree, yes, told, answered_means}
use Rattle.util_defs.proofs.Helpers.{align_decided}
use Rattle.layout_defs.specs.Layout.{Info, fixed, trailing, Layout}
use Rattle.words.specs.Bytes.{word_at}
use Rattle.record_defs.specs.Record.{Words, words_at, kind_of, info_words, words_of, FitsIn, fits_in, record_causes, own_for, decode_for, Decodes, after, record_bytes, encode_for, encoded_into, encode_words_for, encoded_words_into, fitted}
use Rattle.record_defs.proofs.Records.{tells_fits, record_meets, decode_own, decode_passes, decode_fits}
use Rattle.widths_layouts_defs.specs.Low.{low_layout, LayoutIn}
use Rattle.widths_layouts_defs.proofs.Layouts.{low_layout_lem}

-- v bits hold a layout where they hold its words
fits_info : (v a k : ℕ) (i : Info) (m u : Bool) → FitsIn v (info_words a k i) → LayoutIn v (record { align = a; info = i; mark = m; modifier = u })
fits_info v a k (fixed s) m u h = record { align = omega (arith, h.align, pow_pos v); info = omega (arith, h.size, pow_pos v) }
fits_info v a k (trailing t) m u h = record {
  align = omega (arith, h.align, pow_pos v);
  info = record {
    offset = omega (arith, h.offset, pow_pos v);
    elem = omega (arith, h.elem, pow_pos v);
    base = omega (arith, h.size, pow_pos v);
    word = omega (arith, h.word, pow_pos v);
  };
}

pub fits_layout : (v : ℕ) (l : Layout) → FitsIn v (words_of l) → LayoutIn v l
fits_layout v l h = fits_info v l.align (kind_of l.info l.mark l.modifier) l.info l.mark l.modifier h

-- what was read of a record, of either form
pub fitted_low : (v : ℕ) (l : Layout) → fits_in v (words_of l) ≡ true → answered (low_layout v l) ≡ fitted v (answered l)
unfolding unless
fitted_low v l f =
    ap answered (low_layout_lem v l (fits_layout v l (yes (tells_fits v (words_of l)) f)))
    ∙ ap (λ (b : Bool). cond (not b) (refused 43) (answered l)) (sym f)

pub fitted_passes : (v : ℕ) (l : Layout) → fits_in v (words_of l) ≡ false → refused 43 ≡ fitted v (answered l)
unfolding unless
fitted_passes v l f = ap (λ (b : Bool). cond (not b) (refused 43) (answered l)) (sym f)

-- `decode` at v bits, by the record's own tests: of a record whose words are those of the layout that they gave
module _ (v : ℕ) (s : List ℕ) (below : word_at s 0 < 2 ^ 64) where
  abbrev Told : Outcome Layout → Type 0
  Told r = (r ≡ decode_for v s) × Meets (record_causes v s) (Decodes (words_at s 0)) r

  pub decoded_off : {k : ℕ} → own_for s ≡ refused k → Told (refused k)
  decoded_off e = told (record_meets v s below) (sym (decode_own v s e))

  pub decoded_passes : {l : Layout} → own_for s ≡ answered l → Decodes (words_at s 0) l → fits_in v (words_of l) ≡ false → Told (refused 43)
  decoded_passes e d f = told (record_meets v s below) (sym (decode_passes v s e (ap (fits_in v) (sym d) ∙ f)))

  pub decoded_low : {l : Layout} {r : Outcome Layout} → own_for s ≡ answered l → Decodes (words_at s 0) l → fits_in v (words_of l) ≡ true
      → r ≡ answered (low_layout v l) → Told r
  decoded_low {l} e d f q =
      told (record_meets v s below)
      (q ∙ ap answered (low_layout_lem v l (fits_layout v l (yes (tells_fits v (words_of l)) f))) ∙ sym e ∙ sym (decode_fits v s (ap (fits_in v) (sym d) ∙ f)))

  -- which is what fits, of what they gave
  pub decoded_fitted : (o : Outcome Layout) → o ≡ own_for s → Meets (record_causes 64 s) (Decodes (words_at s 0)) o → Told (fitted v o)
  decoded_fitted (refused k) e m = decoded_off (sym e)
  decoded_fitted (answered l) e m = go (fits_in v (words_of l)) refl
    where
      go : (b : Bool) → fits_in v (words_of l) ≡ b → Told (fitted v (answered l))
      go true f = decoded_low (sym e) (answered_means m).1 f (sym (fitted_low v l f))
      go false f = subst Told (fitted_passes v l f) (decoded_passes (sym e) (answered_means m).1 f)

-- `encode`: the same at two widths that hold the alignment
pub encode_same : (v w : ℕ) (l : Layout) (n : ℕ) → l.align < 2 ^ v → l.align < 2 ^ w → encode_for v l n ≡ encode_for w l n
unfolding encode_for unless
encode_same v w l n g h = rw (agree (align_decided v l.align g) (align_decided w l.align h))

pub encoded_same : (v w : ℕ) (l : Layout) (s : List ℕ) → l.align < 2 ^ v → l.align < 2 ^ w → encoded_into v l s ≡ encoded_into w l s
encoded_same v w l s g h = ap (λ (o : Outcome (Unit {0})). after o (record_bytes (words_of l)) s) (encode_same v w l (length s) g h)

-- `encode_words`: the same
pub encode_words_same : (v w : ℕ) (r : Words) (n : ℕ) → r.align < 2 ^ v → r.align < 2 ^ w → encode_words_for v r n ≡ encode_words_for w r n
unfolding encode_words_for unless
encode_words_same v w r n g h = rw (agree (align_decided v r.align g) (align_decided w r.align h))

pub encoded_words_same : (v w : ℕ) (r : Words) (s : List ℕ) → r.align < 2 ^ v → r.align < 2 ^ w → encoded_words_into v r s ≡ encoded_words_into w r s
encoded_words_same v w r s g h = ap (λ (o : Outcome (Unit {0})). after o (record_bytes r) s) (encode_words_same v w r (length s) g h)
