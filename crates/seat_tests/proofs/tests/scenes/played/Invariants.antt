use Rattle.seat_tests.proofs.tests.scenes.played.Given as goal

abbrev pub ghosts-book_after-L-Ledger : goal.ghosts-book_after-L-Ledger
ghosts-book_after-L-Ledger g a = record { name = a.blank.name; parts = a.blank.parts }

-- the ledger stands for the setting of the book
abbrev pub ghosts-book_after-L-BookLedger : goal.ghosts-book_after-L-BookLedger
ghosts-book_after-L-BookLedger g a = record { setting = a.book.setting }
