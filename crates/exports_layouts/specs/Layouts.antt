-- How layouts, records and member lists cross to C: a layout as the six words of its record. Assumes nothing.
use Rattle.std.specs.Prelude.{ℕ}
use Rattle.util_defs.specs.Refusal.{Outcome, answered, refused}
use Rattle.layout_defs.specs.Layout.{Layout}
use Rattle.record_defs.specs.Record.{Words, words_of, words_for}
use Rattle.compose_defs.specs.Compose.{Composed, composed, refused_at}
use Rattle.exports_layouts.specs.declared.Layout as given
use Rattle.exports_layouts.specs.declared.LayoutOut.{LayoutOut}
use Rattle.exports_layouts.specs.declared.ComposedOut.{ComposedOut}

-- what follows an answer; a refusal is passed on
abbrev pub bind_outcome : {S T : Type 0} → Outcome S → (S → Outcome T) → Outcome T
bind_outcome (answered x) f = f x
bind_outcome (refused k) f = refused k

-- a layout that was handed over
abbrev pub words_given : given.Layout → Words
words_given l = record {
  align = l.align;
  kind = l.kind;
  size = l.size_base;
  offset = l.offset;
  elem = l.elem_size;
  word = l.word;
}

-- what is done with it: its words are tested as a record's are
abbrev pub with_layout : {T : Type 0} → ℕ → given.Layout → (Layout → Outcome T) → Outcome T
with_layout w l f = bind_outcome (words_for w (words_given l)) f

-- one that comes back; 0 in its place beside a refusal
abbrev pub words_out : Words → given.Layout
words_out r = record {
  align = r.align;
  kind = r.kind;
  size_base = r.size;
  offset = r.offset;
  elem_size = r.elem;
  word = r.word;
}

abbrev pub no_layout : given.Layout
no_layout = record { align = 0; kind = 0; size_base = 0; offset = 0; elem_size = 0; word = 0 }

abbrev pub layout_out : Outcome Layout → LayoutOut
layout_out (answered l) = record { refusal = 0; layout = words_out (words_of l) }
layout_out (refused k) = record { refusal = k; layout = no_layout }

abbrev pub composed_out : Composed → ComposedOut
composed_out (composed l) = record { refusal = 0; place = 0; layout = words_out (words_of l) }
composed_out (refused_at k place) = record { refusal = k; place = place; layout = no_layout }

-- the refusal number alone, where nothing else comes back
abbrev pub refusal_out : Outcome (Unit {0}) → ℕ
refusal_out (answered u) = 0
refusal_out (refused k) = k
