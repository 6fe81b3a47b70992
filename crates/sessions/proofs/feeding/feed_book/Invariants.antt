use Rattle.sessions.proofs.feeding.feed_book.Given as goal

abbrev pub ghosts-feed_by-L-Ledger : goal.ghosts-feed_by-L-Ledger
ghosts-feed_by-L-Ledger g a = record { name = a.blank.name; parts = a.blank.parts }

-- the ledger stands for the setting of the book
abbrev pub ghosts-feed_by-L-BookLedger : goal.ghosts-feed_by-L-BookLedger
ghosts-feed_by-L-BookLedger g a = record { setting = a.noted.book.setting }
