-- The loops over the heads of a description. Assumes nothing.
use mathlib.Core.Path.{◌≡◌, refl, sym, ap, ◌∙◌}
use mathlib.Core.Bool.{Bool, true, false, cond}
use mathlib.Core.List.{List, [], ◌∷◌, ◌++◌, map, append-nil, append_assoc}
use Prim.Native.Nat.{ℕ, ◌+◌, ◌≤◌, ◌<◌}
use native.Mathlib.Omega.{arith}
use lib.Dec.{eqb}
use lib.ListN.{length, take, drop, get_or, length-append, length-drop, drop_of_length-le}
use lib.Seq.{sets, sets-eq, take_at, drop-drop, drop-append-add}
use Rattle.util_defs.specs.Placed.{reached, stopped, go_on}
use Rattle.describe_defs.specs.Describe.{struct_tag, tag_of}
use Rattle.rewrite_defs.specs.Heads.{behind_tag, heads_of, joined, has_tag, tags_among, tags_in}
use Rattle.rewrite_defs.specs.Rewrite.{Way, longer, shorter, from, turned_head, count_above, counts_fit, rewritten, filled}
use Rattle.rewrite_defs.proofs.Whole.{AllWhole}
use Rattle.rewrite_defs.proofs.Same.{byte_in, head_room, past_head}
use Rattle.rewrite.specs.View.{head_at, HeadIn, Whole}
use Rattle.rewrite.proofs.Ways.{head_tag, head_length}

-- the bytes of the head at a place
abbrev pub head_bytes : List ℕ → ℕ → ℕ
head_bytes s at = 1 + behind_tag (tag_of (get_or s at 0))

-- ---- the next head
pub record Next (s : List ℕ) (at : ℕ) (hs : List (List ℕ)) : Type 0 where
  pub rest : List (List ℕ)
  pub heads : hs ≡ head_at s at ∷ rest
  pub inside : HeadIn s at
  pub whole : AllWhole rest
  pub there : drop (at + head_bytes s at) s ≡ joined rest

pub next : (s : List ℕ) (at : ℕ) (hs : List (List ℕ)) → AllWhole hs → drop at s ≡ joined hs → at < length s → Next s at hs
next s at [] w e h = absurd (omega (arith, h, length-drop at s, ap length e))
next s at ([] ∷ hs) w e h = absurd w.0
next s at ((b ∷ r) ∷ hs) w e h =
    let x = byte_in s (b ∷ r) (joined hs) at e 0 (omega arith) in
    let z : at + 0 ≡ at = omega arith in
    let q : get_or s at 0 ≡ b = ap (λ (i : ℕ). get_or s i 0) (sym z) ∙ x.is in
    let l : length (b ∷ r) ≡ head_bytes s at = omega (arith, w.0, ap (λ (y : ℕ). behind_tag (tag_of y)) q) in
    record {
      rest = hs;
      heads = ap (λ (y : List ℕ). y ∷ hs) (sym (ap (take (head_bytes s at)) e ∙ take_at (b ∷ r) (joined hs) (head_bytes s at) l));
      inside = (h, omega (arith, l, head_room s (b ∷ r) (joined hs) at e (length (b ∷ r)) (omega arith) (omega arith)));
      whole = w.1;
      there = past_head s (b ∷ r) (joined hs) at e (head_bytes s at) l;
    }

no_more : (s : List ℕ) (at : ℕ) (hs : List (List ℕ)) → AllWhole hs → drop at s ≡ joined hs → length s ≤ at → hs ≡ []
no_more s at [] w e h = refl
no_more s at ([] ∷ hs) w e h = absurd w.0
no_more s at ((b ∷ r) ∷ hs) w e h = absurd (omega (arith, ap length (sym (drop_of_length-le s h) ∙ e)))

-- ---- counting the heads that are turned
pub record Counting (way : Way) (s : List ℕ) (at turned : ℕ) : Type 0 where
  pub heads : List (List ℕ)
  pub whole : AllWhole heads
  pub is : drop at s ≡ joined heads
  pub few : turned ≤ at
  pub same : go_on (counts_fit way at heads) (λ _. reached (turned + tags_among (struct_tag (from way)) heads))
      ≡ go_on (counts_fit way 0 (heads_of s)) (λ _. reached (tags_in (struct_tag (from way)) s))

pub counting_inside : (way : Way) (s : List ℕ) (at turned : ℕ) → Counting way s at turned → at < length s → HeadIn s at
counting_inside way s at turned x h = (next s at x.heads x.whole x.is h).inside

module _ (way : Way) (s : List ℕ) where
  pub count_begins : Whole s → Counting way s 0 0
  count_begins h = record {
    heads = heads_of s;
    whole = h.0;
    is = h.1;
    few = omega arith;
    same = let e : 0 + tags_in (struct_tag (from way)) s ≡ tags_in (struct_tag (from way)) s = omega arith in
        ap (λ (n : ℕ). go_on (counts_fit way 0 (heads_of s)) (λ _. reached n)) e;
  }

  step : (at turned : ℕ) (h : List ℕ) (hs : List (List ℕ)) (p : Bool) → has_tag (struct_tag (from way)) h ≡ p → count_above way h ≡ false
      → go_on (counts_fit way (at + length h) hs) (λ _. reached (turned + cond p 1 0 + tags_among (struct_tag (from way)) hs))
      ≡ go_on (counts_fit way at (h ∷ hs)) (λ _. reached (turned + tags_among (struct_tag (from way)) (h ∷ hs)))
  unfolding counts_fit tags_among
  step at turned h hs p e f =
      let g : turned + cond p 1 0 + tags_among (struct_tag (from way)) hs ≡ turned + (cond p 1 0 + tags_among (struct_tag (from way)) hs) = omega arith in
      rw (f, e) (ap (λ (n : ℕ). go_on (counts_fit way (at + length h) hs) (λ _. reached n)) g)

  count_step : (at turned : ℕ) (p : Bool) (x : Counting way s at turned) → at < length s → eqb (get_or s at 0) (struct_tag (from way)) ≡ p
      → count_above way (head_at s at) ≡ false → (n : ℕ) → n ≡ turned + cond p 1 0 → n ≤ at + head_bytes s at → Counting way s (at + head_bytes s at) n
  count_step at turned p x h e f n q b =
      let y = next s at x.heads x.whole x.is h in
      let l = head_length s at y.inside in
      let z = step at turned (head_at s at) y.rest p (head_tag (struct_tag (from way)) s at h ∙ e) f in
      record {
        heads = y.rest;
        whole = y.whole;
        is = y.there;
        few = b;
        same = rw (q, sym l) (z ∙ ap (λ (hs : List (List ℕ)). go_on (counts_fit way at hs) (λ _. reached (turned + tags_among (struct_tag (from way)) hs))) (sym y.heads) ∙ x.same);
      }

  kept_fits : (v : Way) (h : List ℕ) → has_tag (struct_tag (from v)) h ≡ false → count_above v h ≡ false
  kept_fits longer h e = refl
  kept_fits shorter h e = rw e

  pub count_turned_on : {at turned k : ℕ} (x : Counting way s at turned) → at < length s → eqb (get_or s at 0) (struct_tag (from way)) ≡ true
      → count_above way (head_at s at) ≡ false → k ≡ head_bytes s at → Counting way s (at + k) (turned + 1)
  count_turned_on {at} {turned} x h e f q = rw q (count_step at turned true x h e f (turned + 1) refl (omega (arith, x.few)))

  pub count_kept_on : {at turned k : ℕ} (x : Counting way s at turned) → at < length s → eqb (get_or s at 0) (struct_tag (from way)) ≡ false
      → k ≡ head_bytes s at → Counting way s (at + k) turned
  count_kept_on {at} {turned} x h e q =
      rw q (count_step at turned false x h e (kept_fits way (head_at s at) (head_tag (struct_tag (from way)) s at h ∙ e)) turned (omega arith) (omega (arith, x.few)))

  pub count_stops : {at turned : ℕ} (x : Counting way s at turned) → at < length s → count_above way (head_at s at) ≡ true
      → stopped 44 at ≡ go_on (counts_fit way 0 (heads_of s)) (λ _. reached (tags_in (struct_tag (from way)) s))
  unfolding counts_fit
  count_stops {at} {turned} x h f =
      let y = next s at x.heads x.whole x.is h in
      stop (head_at s at) y.rest f ∙ ap (λ (hs : List (List ℕ)). go_on (counts_fit way at hs) (λ _. reached (turned + tags_among (struct_tag (from way)) hs))) (sym y.heads) ∙ x.same
    where
      stop : (h : List ℕ) (hs : List (List ℕ)) → count_above way h ≡ true → stopped 44 at ≡ go_on (counts_fit way at (h ∷ hs)) (λ _. reached (turned + tags_among (struct_tag (from way)) (h ∷ hs)))
      stop h hs f = rw f

  pub count_ends : {at turned : ℕ} (x : Counting way s at turned) → length s ≤ at
      → reached turned ≡ go_on (counts_fit way 0 (heads_of s)) (λ _. reached (tags_in (struct_tag (from way)) s))
  unfolding counts_fit tags_among
  count_ends {at} {turned} x h =
      let n = no_more s at x.heads x.whole x.is h in
      let e : turned ≡ turned + 0 = omega arith in
      ap reached e ∙ ap (λ (hs : List (List ℕ)). go_on (counts_fit way at hs) (λ _. reached (turned + tags_among (struct_tag (from way)) hs))) (sym n) ∙ x.same

-- ---- writing the heads
pub record Writing (way : Way) (s out₀ out : List ℕ) (at to : ℕ) : Type 0 where
  pub heads : List (List ℕ)
  pub whole : AllWhole heads
  pub is : drop at s ≡ joined heads
  pub front : List ℕ
  pub so_far : to ≡ length front
  pub bytes : out ≡ front ++ drop to out₀
  pub all : front ++ joined (map (turned_head way) heads) ≡ rewritten way s

module _ (way : Way) (s out₀ : List ℕ) where
  pub write_begins : Whole s → Writing way s out₀ out₀ 0 0
  write_begins h = record { heads = heads_of s; whole = h.0; is = h.1; front = []; so_far = refl; bytes = refl; all = refl }

  module _ {out : List ℕ} {at to : ℕ} (x : Writing way s out₀ out at to) (r : length (rewritten way s) ≤ length out₀) where
    all_length : length (rewritten way s) ≡ to + length (joined (map (turned_head way) x.heads))
    all_length = omega (arith, ap length (sym x.all), length-append x.front (joined (map (turned_head way) x.heads)), x.so_far)

    pub write_length : length out ≡ length out₀
    write_length = omega (arith, ap length x.bytes, length-append x.front (drop to out₀), length-drop to out₀, all_length, x.so_far, r)

    pub write_room : at < length s → HeadIn s at × (to + length (turned_head way (head_at s at)) ≤ length out)
    write_room h =
        let y = next s at x.heads x.whole x.is h in
        let e = ap (λ (hs : List (List ℕ)). length (joined (map (turned_head way) hs))) y.heads in
        (y.inside, omega (arith, write_length, all_length, e, r, length-append (turned_head way (head_at s at)) (joined (map (turned_head way) y.rest))))

    pub write_on : at < length s → {to' k : ℕ} {out' : List ℕ}
        → (to' ≡ to + length (turned_head way (head_at s at))) × (out' ≡ sets out to (turned_head way (head_at s at))) → k ≡ head_bytes s at
        → Writing way s out₀ out' (at + k) to'
    write_on h {to'} {k} {out'} p q =
        let y = next s at x.heads x.whole x.is h in
        let t = turned_head way (head_at s at) in
        let m = (write_room h).1 in
        let f : take to out ≡ x.front = ap (take to) x.bytes ∙ take_at x.front (drop to out₀) to (sym x.so_far) in
        let g : drop (to + length t) out ≡ drop (to + length t) out₀ =
        ap (drop (to + length t)) x.bytes ∙ ap (λ (i : ℕ). drop (i + length t) (x.front ++ drop to out₀)) x.so_far
        ∙ drop-append-add x.front (drop to out₀) (length t) ∙ drop-drop (length t) to out₀ in
        record {
          heads = y.rest;
          whole = y.whole;
          is = ap (λ (i : ℕ). drop (at + i) s) q ∙ y.there;
          front = x.front ++ t;
          so_far = p.0 ∙ ap (λ (i : ℕ). i + length t) x.so_far ∙ sym (length-append x.front t);
          bytes = p.1 ∙ sets-eq t out to m ∙ ap (λ (u : List ℕ). u ++ t ++ drop (to + length t) out) f ∙ ap (λ (u : List ℕ). x.front ++ t ++ u) g
              ∙ ap (λ (i : ℕ). x.front ++ t ++ drop i out₀) (sym p.0);
          all = append_assoc x.front t (joined (map (turned_head way) y.rest))
              ∙ ap (λ (hs : List (List ℕ)). x.front ++ joined (map (turned_head way) hs)) (sym y.heads) ∙ x.all;
        }

    pub write_ends : length s ≤ at → out ≡ filled (reached (rewritten way s)) out₀
    write_ends h =
        let n = no_more s at x.heads x.whole x.is h in
        let e : x.front ≡ rewritten way s = sym (append-nil x.front) ∙ ap (λ (hs : List (List ℕ)). x.front ++ joined (map (turned_head way) hs)) (sym n) ∙ x.all in
        x.bytes ∙ ap (λ (i : ℕ). x.front ++ drop i out₀) x.so_far ∙ ap (λ (u : List ℕ). u ++ drop (length u) out₀) e
