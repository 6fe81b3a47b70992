use Rattle.std.proofs.Common.{◌≡◌, ap, arith, false, refl}
use Rattle.std.proofs.lemmas.List.Elements.{All-nil, All-push}
use Rattle.wagons_program.proofs.OpenedFiles.{all_opened, none_opened, one_opened}
use Rattle.wagons_program.proofs.feed.open_files.Goals as goal

pub loop-path-init : goal.loop-path-init
loop-path-init g c = record {
  fresh = rw c.in_ok-readers.ensures.items (All-nil (λ reader. reader.has_failed ≡ false));
  each = none_opened (g.R.FileSystem.bytes_at c.args.rt.now) (λ reader. g.R.File.Read.remaining reader.device) c.args.paths.now _ c.in_ok-readers.ensures.items;
}

pub loop-path-preserved : goal.loop-path-preserved
loop-path-preserved g c = record {
  fresh = rw c.in_ok-push.ensures.items (All-push (λ reader. reader.has_failed ≡ false) c.loop-path.readers.items c.new.result c.loop-path.invariant.fresh c.new.ensures.fresh);
  each = one_opened (g.R.FileSystem.bytes_at c.args.rt.now) (λ reader. g.R.File.Read.remaining reader.device) c.args.paths.now c.loop-path.readers.items _ c.loop-path.path-index _ _ _ c.new.result (omega arith) refl
      c.loop-path.invariant.each c.in_ok-push.ensures.items (ap g.R.File.Read.remaining c.new.ensures.device) c.in_ok-open_plain.ensures.bytes;
}

pub returns-clause-fresh : goal.returns-clause-fresh
returns-clause-fresh g c = c.loop-path.invariant.fresh

pub returns-clause-each : goal.returns-clause-each
returns-clause-each g c =
    all_opened (g.R.FileSystem.bytes_at c.args.rt.now) (λ reader. g.R.File.Read.remaining reader.device) c.args.paths.now c.loop-path.readers.items c.loop-path.path-index (omega arith)
    c.loop-path.invariant.each
