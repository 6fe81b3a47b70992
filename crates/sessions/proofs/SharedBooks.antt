-- A book, and a receipt, may be lent to several threads.
use denote.Param.Send.{IsSend, IsSync, sendable}
use Rattle.std.proofs.Crossing.{crosses}
use Rattle.std.proofs.MapsCrossing as maps
use Rattle.commit_book.specs.contracts.book.Book as Book
use Rattle.line_network.specs.contracts.networks.Networks as Networks
use Rattle.operating_db.specs.contracts.office_state.OfficeState as OfficeState
use Rattle.commit_book.specs.contracts.entry.Entry as Entry
use Rattle.commit_book.specs.contracts.made_problem.MadeProblem as MadeProblem
use Rattle.commit_book.specs.contracts.ascending_problem.AscendingProblem as AscendingProblem
use Rattle.commit_book.specs.contracts.kept_problems.KeptProblem as KeptProblem
use Rattle.sessions.specs.contracts.receipt.Receipt as Receipt

networks_sync : IsSync Networks.the_row
networks_sync = search (maps.crosses, crosses, sendable) depth 40 fits 20000

networks_send : IsSend Networks.the_row
networks_send = search (maps.crosses, crosses, sendable) depth 40 fits 20000

office_sync : IsSync OfficeState.the_row
office_sync = search (maps.crosses, crosses, sendable) depth 40 fits 20000

entry_sync : IsSync Entry.the_row
entry_sync = search (maps.crosses, crosses, sendable) depth 40 fits 20000

made_sync : IsSync MadeProblem.the_row
made_sync = search (maps.crosses, crosses, sendable) depth 60 fits 20000

made_send : IsSend MadeProblem.the_row
made_send = search (maps.crosses, crosses, sendable) depth 60 fits 20000

ascending_sync : IsSync AscendingProblem.the_row
ascending_sync = search (maps.crosses, crosses, sendable) depth 60 fits 20000

kept_sync : IsSync KeptProblem.the_row
kept_sync = search (made_sync, made_send, ascending_sync, maps.crosses, crosses, sendable) depth 100 fits 50000

pub book_sync : IsSync Book.the_row
book_sync = search (kept_sync, networks_sync, networks_send, office_sync, entry_sync, maps.crosses, crosses, sendable) depth 300 fits 100000

pub receipt_sync : IsSync Receipt.the_row
receipt_sync = search (maps.crosses, crosses, sendable) depth 60 fits 20000
