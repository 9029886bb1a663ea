use Rattle.std.proofs.Common.{IsUtf8, sym, subst}
use Rattle.ax_sheet_writing.proofs.Ascii.{content_utf8}
use Rattle.ax_sheet_writing.proofs.values.content_str.Goals as goal

pub unreachable-requires : goal.unreachable-requires
unreachable-requires c = c.in-Err.ensures.cases.0 (subst IsUtf8 (sym c.parts.ensures.value) (content_utf8 c.args.text.now c.parts.ensures.grammar))
