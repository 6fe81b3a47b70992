use Rattle.std.proofs.Common.{slice_set, subst, sym, vec_capacity}
use Rattle.fleet_rows.specs.inner.EmptyList.{AreListed}
use Rattle.fleet_rows.specs.inner.Stored.{AreStored}
use Rattle.fleet_rows.proofs.Wagons.{free_put, free_stays}
use Rattle.fleet_rows.proofs.wagon_rows.WagonRows.set.Goals as goal

pub invariant_of-self : goal.invariant_of-self
invariant_of-self c =
    subst (λ rows. AreStored rows (slice_set c.self.inside.are_free.items c.args.index c.is_free-now_free.result) c.replace.new.empty.items (vec_capacity c.replace.new.empty)) (sym c.replace.ensures.rows) (record {
      kept = rw (← c.self.view_is) at c.requires.valid;
      free = rw c.is_free-now_free.ensures (free_put c.self.inside.rows.items c.args.index c.args.row.now c.self.inside.are_free.items c.self.invariant.free);
      listed = subst (λ rows. AreListed rows c.replace.new.empty.items (vec_capacity c.replace.new.empty)) c.replace.ensures.rows c.replace.ensures.listed;
    })

pub invariant_of-self-else-was_free-now_free : goal.invariant_of-self-else-was_free-now_free
invariant_of-self-else-was_free-now_free c =
    subst (λ rows. AreStored rows c.self.inside.are_free.items c.replace.new.empty.items (vec_capacity c.replace.new.empty)) (sym c.replace.ensures.rows) (record {
      kept = rw (← c.self.view_is) at c.requires.valid;
      free =
          free_stays c.self.inside.rows.items c.args.index c.args.row.now c.index.result.now c.self.inside.are_free.items c.is_free-was_free.result c.is_free-now_free.result
          c.self.invariant.free c.index.ensures c.is_free-was_free.ensures c.is_free-now_free.ensures c.if-was_free-now_free.false;
      listed = subst (λ rows. AreListed rows c.replace.new.empty.items (vec_capacity c.replace.new.empty)) c.replace.ensures.rows c.replace.ensures.listed;
    })
