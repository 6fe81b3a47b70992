-- The book that the program begins with.
use Rattle.std.specs.Prelude.{◌≡◌, List, []}
use Rattle.command_line.specs.declared.office_options.OfficeOptions.{OfficeOptions}
use Rattle.commit_book.specs.Books.{BookValue}
use Rattle.line_network.specs.Network.{NetworkValue}
use Rattle.office_files.specs.FirstOffice.{AreInFiles}
use Rattle.office_files.specs.InFile.{BytesAt}
use Rattle.operating_db.specs.Office.{Office}
use Rattle.price_checker.specs.Limits.{LimitNumbers}

-- it has this office at the beginning, these networks in this order, and these limits; it has no entry, and keeps no problem
pub record IsFirstBook (first : Office) (networks : List NetworkValue) (limits : LimitNumbers) (book : BookValue) : Type 0 where
  pub setting : book.setting ≡ record { first = first; networks = networks; entries = limits.entries; kept = limits.kept }
  pub history : book.state.history ≡ []
  pub kept : book.state.kept ≡ []

-- the first book for these options over these networks: its office and the networks are those that the options' files say, by their
-- bytes where these are known
abbrev pub IsFirstBookFor : BytesAt → OfficeOptions → (networks : List NetworkValue) → BookValue → Type 0
IsFirstBookFor bytes_at options networks book =
    (office : Office) × AreInFiles bytes_at options office networks × IsFirstBook office networks options.limits book
