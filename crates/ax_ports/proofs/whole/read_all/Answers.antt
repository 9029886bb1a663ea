use Rattle.std.proofs.Common.{refl, sym, vec_len, arith, length, take, ◌++◌, List, ℕ}
use Rattle.std.proofs.lemmas.List.{length-take, length-append}
use Rattle.ax_ports.proofs.Pieces.{Consumes-trans, Consumes-kept, Consumes-first, on_err}
use Rattle.ax_ports.proofs.whole.read_all.Goals as goal

pub returns-in_err-extend_from_slice-clause-broken : goal.returns-in_err-extend_from_slice-clause-broken
returns-in_err-extend_from_slice-clause-broken g c =
    let taken : List ℕ = c.loop-room.bytes.items ++ take c.in_ok-count.count c.read.new.room in
    on_err c.from_residual-in_err-extend_from_slice.result (
      length taken,
      omega (arith, c.loop-room.bytes.ok.0, c.in_ok-count.ensures.bound, c.min-most.ensures, length-append {A = ℕ}, length-take {A = ℕ}),
      Consumes-first _ _ taken (length taken) refl (Consumes-trans _ (g.S.Source.left c.loop-room.source) _ _ _ c.loop-room.invariant.2 c.in_ok-count.ensures.bytes.0),
    )

pub returns-in_err-count-clause-broken : goal.returns-in_err-count-clause-broken
returns-in_err-count-clause-broken g c =
    let bytes = c.loop-room.bytes in
    on_err c.from_residual.result (
      vec_len bytes,
      omega (arith, c.loop-room.invariant.0),
      Consumes-first _ _ bytes.items (vec_len bytes) (sym bytes.ok.0) (Consumes-kept _ (g.S.Source.left c.loop-room.source) _ bytes.items c.loop-room.invariant.2 c.in_err-count.ensures.bytes),
    )
