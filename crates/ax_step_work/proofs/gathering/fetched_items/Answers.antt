use Rattle.std.proofs.Common.{◌+◌, ◌≤◌, ◌++◌, None, length, sym, ap, ◌∙◌, arith}
use Rattle.std.proofs.lemmas.List.{length-append}
use Rattle.ax_tokens.specs.Nodes.{token_of}
use Rattle.ax_state.specs.Batches.{is_fetched}
use Rattle.ax_step_work.specs.Reach.{events_at}
use Rattle.ax_step_work.specs.Sharing.{taken}
use Rattle.ax_step_work.proofs.FetchedWalk.{fetched_below, fetched-start, fetched-grown, fetched-all, end-within}
use Rattle.ax_step_work.proofs.Gathered.{items_of_events, items-more}
use Rattle.ax_step_work.proofs.gathering.fetched_items.Goals as goal

pub loop-index-init : goal.loop-index-init
loop-index-init c =
    let none = fetched-start None c.args.segment (token_of c.args.old.now) (token_of c.args.new.now) c.args.cells.now c.next_open-index.result c.next_open-index.ensures.between in
    record {
      few = omega arith;
      count = sym (ap length none);
      made = c.new-items.ensures.items ∙ sym (ap (items_of_events c.args.chain.now (taken c.args.segment (token_of c.args.old.now) (token_of c.args.new.now))) none);
    }

pub loop-index-preserved : goal.loop-index-preserved
loop-index-preserved c =
    let items = items_of_events c.args.chain.now (taken c.args.segment (token_of c.args.old.now) (token_of c.args.new.now)) in
    let below = fetched_below None c.args.segment (token_of c.args.old.now) (token_of c.args.new.now) c.args.cells.now c.loop-index.index in
    let more = events_at (is_fetched None c.args.segment (token_of c.args.old.now) (token_of c.args.new.now)) c.loop-index.index c.index-cells-index.result in
    let grown = fetched-grown None c.args.segment (token_of c.args.old.now) (token_of c.args.new.now) c.args.cells.now c.loop-index.index c.next_open-index-in-loop-index.result c.index-cells-index.result
    (end-within c.args.cells.now c.high_of.result c.min-end.result c.loop-index.index c.min-end.ensures c.loop-index-test.true) c.index-cells-index.is c.next_open-index-in-loop-index.ensures.from c.next_open-index-in-loop-index.ensures.between in
    record {
      few =
          let low : c.loop-index.records ≤ c.loop-index.index = c.loop-index.invariant.few in
          let up : c.loop-index.index + 1 ≤ c.next_open-index-in-loop-index.result = c.next_open-index-in-loop-index.ensures.from in
          let one : c.in_ok-records.field-0 ≤ 1 = c.in_ok-records.ensures.one in omega (arith, low, up, one);
      count =
          ap (λ n. n + c.in_ok-records.field-0) c.loop-index.invariant.count ∙ ap (λ n. length below + n) c.in_ok-records.ensures.count ∙ sym (length-append below more) ∙ ap length (sym grown);
      made =
          c.in_ok-records.ensures.items ∙ ap (λ xs. xs ++ items more) c.loop-index.invariant.made ∙ sym (items-more c.args.chain.now (taken c.args.segment (token_of c.args.old.now) (token_of c.args.new.now)) below more) ∙ ap items (sym grown);
    }

pub returns-clause-items : goal.returns-clause-items
returns-clause-items c =
    c.loop-index.invariant.made
    ∙ ap (items_of_events c.args.chain.now (taken c.args.segment (token_of c.args.old.now) (token_of c.args.new.now)))
    (fetched-all None c.args.segment (token_of c.args.old.now) (token_of c.args.new.now) c.args.cells.now c.high_of.result c.min-end.result c.loop-index.index c.high_of.ensures.above c.min-end.ensures (omega (arith, c.loop-index-test.false)))

pub returns-clause-records : goal.returns-clause-records
returns-clause-records c =
    c.loop-index.invariant.count
    ∙ ap length (fetched-all None c.args.segment (token_of c.args.old.now) (token_of c.args.new.now) c.args.cells.now c.high_of.result c.min-end.result c.loop-index.index c.high_of.ensures.above c.min-end.ensures (omega (arith, c.loop-index-test.false)))
