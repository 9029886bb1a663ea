use Rattle.std.proofs.Common.{sym, subst, arith}
use Rattle.ax_values.specs.Grammar.{Cut}
use Rattle.ax_script.specs.Read.{Reads}
use Rattle.ax_script.proofs.Pieces.{shorter, goes-on, faulty, ends-at}
use Rattle.ax_script.proofs.reader.read_lines.Goals as goal

pub returns-in-Err : goal.returns-in-Err
returns-in-Err c =
    faulty c.loop-this.line c.loop-this.reading c.loop-this.rest.now _ c.in-Err.fault _ (sym c.in-Some.ensures.value) c.in-Err.ensures c.loop-this.invariant.0

pub loop-this-preserved : goal.loop-this-preserved
loop-this-preserved c =
    let t : Cut = record { before = c.in-Some.this.now; after = c.in-Some.more.now } in
    let short = shorter c.loop-this.rest.now t (sym c.in-Some.ensures.value) in (
      goes-on c.loop-this.line c.loop-this.reading c.in-Ok.next c.loop-this.rest.now t _ (sym c.in-Some.ensures.value) c.in-Ok.ensures c.loop-this.invariant.0,
      omega (arith, short),
    )

pub returns : goal.returns
returns c = subst (Reads c.finished.result) (sym (ends-at c.loop-this.line c.loop-this.reading c.loop-this.rest.now _ (sym c.in_default.ensures.value) c.loop-this.invariant.0)) c.finished.ensures
