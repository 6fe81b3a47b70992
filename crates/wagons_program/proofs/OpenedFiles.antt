-- Files that are opened one after the other.
use Rattle.std.proofs.Common.{◌≡◌, ℕ, ◌+◌, ◌<◌, ◌≤◌, List, [], ◌∷◌, ◌++◌, length, take, get_or, Option, subst, sym}
use Rattle.std.proofs.lemmas.List.{take_all, take_more}
use Rattle.std.proofs.lemmas.Slice.Zip.{all_zipped_more}
use Rattle.std.specs.Borrow.{Bor}
use Rattle.std.specs.List.{AllZip}
use Rattle.office_files.specs.InFile.{BytesAt, HasBytes}

module _ {F : Type 0} (bytes_at : BytesAt) (remaining : F → Option (List ℕ)) where
  -- one for each path, with the bytes of the file there
  abbrev pub AreOpened : List (Bor (List ℕ)) → List F → Type 0
  AreOpened paths files = AllZip (λ path file. HasBytes (bytes_at path.now) (remaining file)) paths files

  pub none_opened : (paths : List (Bor (List ℕ))) (files : List F) → files ≡ [] → AreOpened (take 0 paths) files
  none_opened [] files none = rw none tt
  none_opened (path ∷ paths) files none = rw none tt

  pub one_opened : (paths : List (Bor (List ℕ))) (files more : List F) (i : ℕ) (d : Bor (List ℕ)) (text : List ℕ) (left : Option (List ℕ)) (file : F)
      → i < length paths → text ≡ (get_or paths i d).now → AreOpened (take i paths) files → more ≡ files ++ file ∷ [] → remaining file ≡ left → HasBytes (bytes_at text) left
      → AreOpened (take (i + 1) paths) more
  one_opened paths files more i d text left file within is before grown same has =
      rw (grown, take_more paths i d within)
      (all_zipped_more (λ (p : Bor (List ℕ)) (f : F). HasBytes (bytes_at p.now) (remaining f)) (take i paths) files (get_or paths i d) file before
      (subst (λ (t : List ℕ). HasBytes (bytes_at t) (remaining file)) is (subst (λ (l : Option (List ℕ)). HasBytes (bytes_at text) l) (sym same) has)))

  pub all_opened : (paths : List (Bor (List ℕ))) (files : List F) (i : ℕ) → length paths ≤ i → AreOpened (take i paths) files → AreOpened paths files
  all_opened paths files i all opened = rw (take_all i paths all) at opened
