use Rattle.std.proofs.Common.{refl}
use Rattle.std.specs.BTreeMap.{get}
use Rattle.price_checker.proofs.FirstBelow.{none_both}
use Rattle.commit_book.specs.inner.Ledger.{compare_ids}
use Rattle.commit_book.specs.inner.MessageIds.{company_id, index_among}
use Rattle.commit_book.proofs.NotedIds.{noted_rising}
use Rattle.commit_book.proofs.message_ids.MessageIds.note_other.Goals as goal

pub returns-in-Entered-clause-noted : goal.returns-in-Entered-clause-noted
returns-in-Entered-clause-noted c =
    let entered = rw c.in-Entered.is at c.in_ok-enter.ensures.entered in
    let none = none_both (index_among (get compare_ids c.args.self.now.rising (company_id c.args.id.now)) c.args.id.now.number) (get compare_ids c.args.self.now.others c.args.id.now) entered.0 c.requires in
    (none, noted_rising (get compare_ids c.args.self.now.rising) (get compare_ids c.enter.new.rising) (get compare_ids c.args.self.now.others) c.args.id.now (record { number = c.args.id.now.number; index = c.args.index }) refl none entered.1)
