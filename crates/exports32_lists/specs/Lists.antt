-- How a composed layout at 32 bits crosses to C: 0 in its place beside a refusal, which has a place. Assumes nothing.
use Rattle.record_defs.specs.Record.{words_of}
use Rattle.compose_defs.specs.Compose.{Composed, composed, refused_at}
use Rattle.exports32_layouts.specs.Layouts.{words_out32, no_layout32}
use Rattle.exports32_lists.specs.declared.ComposedOut32.{ComposedOut32}

abbrev pub composed_out32 : Composed → ComposedOut32
composed_out32 (composed l) = record { refusal = 0; place = 0; layout = words_out32 (words_of l) }
composed_out32 (refused_at k place) = record { refusal = k; place = place; layout = no_layout32 }
