use Rattle.std.proofs.Common.{◌≡◌, ◌<◌, arith, inl, inr, refl}
use Rattle.std.proofs.lemmas.Result.{err_from_is_err_and}
use Rattle.pl_nbread.specs.BookmarkFile.{file_limit}
use Rattle.places.proofs.IntakeLemmas.{read_more}
use Rattle.places.proofs.intake.read_all.Goals as goal

-- the limit is reached
pub returns-then-len-clause-left : goal.returns-then-len-clause-left
returns-then-len-clause-left g c bytes told = let left = g.S.Source.left in let behind = c.loop-bytes.invariant in
    inr (
      refl,
      read_more (λ len. len ≡ file_limit) c.loop-bytes.bytes.items c.in_ok-piece.piece.items bytes
          (left c.args.input.now) (left c.loop-bytes.input) (left c.next_piece.new.input) behind.taken
          c.in_ok-piece.ensures.taken told
          (omega (
            arith,
            c.if-len.true,
            c.len-in-loop-bytes.ensures,
            c.len-in-loop-bytes-2.ensures,
            behind.short,
            c.loop-bytes.bytes.ok.0,
            c.in_ok-piece.piece.ok.0,
          )),
    )

-- want of memory for a piece more
pub returns-in_err-extend_from_slice-clause-left : goal.returns-in_err-extend_from_slice-clause-left
returns-in_err-extend_from_slice-clause-left g c =
    let p = err_from_is_err_and c.from_residual-in_err-extend_from_slice.result
    c.from_residual-in_err-extend_from_slice.ensures.1 in
    rw (p.1, p.2) (λ bytes told. let left = g.S.Source.left in let behind = c.loop-bytes.invariant in
    inl (
      inr refl,
      read_more (λ len. len < file_limit) c.loop-bytes.bytes.items c.in_ok-piece.piece.items bytes
          (left c.args.input.now) (left c.loop-bytes.input) (left c.next_piece.new.input) behind.taken
          c.in_ok-piece.ensures.taken told
          (omega (
            arith,
            c.if-len.false,
            c.len-in-loop-bytes.ensures,
            c.len-in-loop-bytes-2.ensures,
            behind.short,
            c.loop-bytes.bytes.ok.0,
            c.in_ok-piece.piece.ok.0,
            c.in_ok-piece.ensures.within,
            c.min.ensures,
            c.len.ensures,
          )),
    ))
