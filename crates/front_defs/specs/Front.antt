-- Bytes read from the map or from the spare copy (document 02, request 13). Two buffers are given, each with its address. "The
-- map serves when its prefix cast is granted, the spare when its own is and the map's is not." Assumes nothing.
use Rattle.std.specs.Prelude.{◌≡◌, List, [], ℕ, length, take}
use Rattle.util_defs.specs.Refusal.{Outcome, answered, refused, None, First}
use Rattle.layout_defs.specs.Layout.{Layout}
use Rattle.cast_defs.specs.Cast.{prefix, cast_causes, Grant, cast_for, GrantMeans}

-- which buffer serves, with what its cast granted; the number of each cast that was refused before
pub data Serving : Type 0 where
  of_map : (granted : Grant) → Serving
  of_spare : (refused_map : ℕ) → (granted : Grant) → Serving
  of_neither : (refused_map refused_spare : ℕ) → Serving

-- by what the casts of the two gave, the map's first
abbrev pub chosen : Outcome Grant → Outcome Grant → Serving
chosen (answered g) o = of_map g
chosen (refused k) (answered g) = of_spare k g
chosen (refused k) (refused j) = of_neither k j

-- which serves of a map of m bytes at a and a spare of s bytes at b
unfoldable pub serving_for : ℕ → Layout → (a m b s : ℕ) → Serving
serving_for w l a m b s = chosen (cast_for w l prefix a m) (cast_for w l prefix b s)

-- "hand back the front part of whichever of the two buffers serves", "the part's length is the granted split", "when neither is
-- granted an empty part of the map comes back"
abbrev pub part_of : Serving → (map spare : List ℕ) → List ℕ
part_of (of_map g) map spare = take g.split map
part_of (of_spare k g) map spare = take g.split spare
part_of (of_neither k j) map spare = take 0 map

abbrev pub split_of : Serving → ℕ
split_of (of_map g) = g.split
split_of (of_spare k g) = g.split
split_of (of_neither k j) = 0

-- `front`: the part of the map, which stands at a, or of the spare, which stands at b
abbrev pub front_for : ℕ → Layout → ℕ → List ℕ → ℕ → List ℕ → List ℕ
front_for w l a map b spare = part_of (serving_for w l a (length map) b (length spare)) map spare

-- a prefix cast over len bytes at addr is granted g: nothing refuses it, and g is the greatest count with its size
pub record IsGranted (w : ℕ) (l : Layout) (addr len : ℕ) (g : Grant) : Type 0 where
  pub none : None (cast_causes w l prefix addr len)
  pub means : GrantMeans w l.info prefix len g

-- and it is refused by k
abbrev pub IsRefused : ℕ → Layout → (addr len : ℕ) → ℕ → Type 0
IsRefused w l addr len k = First (cast_causes w l prefix addr len) k

-- what serving means
pub data Serves (w : ℕ) (l : Layout) (a m b s : ℕ) : Serving → Type 0 where
  map_serves : {g : Grant} → IsGranted w l a m g → Serves w l a m b s (of_map g)
  spare_serves : {k : ℕ} {g : Grant} → IsRefused w l a m k → IsGranted w l b s g → Serves w l a m b s (of_spare k g)
  none_serves : {k j : ℕ} → IsRefused w l a m k → IsRefused w l b s j → Serves w l a m b s (of_neither k j)

-- what the part that comes back is: the front of the buffer that serves, as long as the split that its cast granted, or empty
pub record FrontMeans (w : ℕ) (l : Layout) (a : ℕ) (map : List ℕ) (b : ℕ) (spare part : List ℕ) : Type 0 where
  pub serving : Serving
  pub serves : Serves w l a (length map) b (length spare) serving
  pub bytes : part ≡ part_of serving map spare
  pub split : length part ≡ split_of serving
