-- Reading one network after another.
use Rattle.std.proofs.Common.{◌≡◌, ℕ, ◌+◌, ◌<◌, ◌≤◌, List, [], ◌∷◌, ◌++◌, length, take, get_or, subst}
use Rattle.std.proofs.lemmas.List.{take_all, take_more}
use Rattle.std.proofs.lemmas.Slice.Zip.{all_zipped_more}
use Rattle.std.specs.Borrow.{Bor}
use Rattle.line_network.specs.Network.{NetworkValue}
use Rattle.office_files.specs.FirstOffice.{AreNetworksAt}
use Rattle.office_files.specs.InFile.{BytesAt, IsNetworkIn}

pub no_networks : (bytes_at : BytesAt) (paths : List (Bor (List ℕ))) (networks : List NetworkValue) → networks ≡ [] → AreNetworksAt bytes_at (take 0 paths) networks
no_networks bytes_at [] networks none = rw none tt
no_networks bytes_at (path ∷ paths) networks none = rw none tt

-- the network of the next path
pub networks_more : (bytes_at : BytesAt) (paths : List (Bor (List ℕ))) (networks more : List NetworkValue) (i : ℕ) (d : Bor (List ℕ)) (text : List ℕ) (network : NetworkValue)
    → i < length paths → text ≡ (get_or paths i d).now → AreNetworksAt bytes_at (take i paths) networks → more ≡ networks ++ network ∷ [] → IsNetworkIn (bytes_at text) network
    → AreNetworksAt bytes_at (take (i + 1) paths) more
networks_more bytes_at paths networks more i d text network within is before grown read =
    rw (grown, take_more paths i d within)
    (all_zipped_more (λ (p : Bor (List ℕ)) (n : NetworkValue). IsNetworkIn (bytes_at p.now) n) (take i paths) networks (get_or paths i d) network before
    (subst (λ (t : List ℕ). IsNetworkIn (bytes_at t) network) is read))

pub all_networks : (bytes_at : BytesAt) (paths : List (Bor (List ℕ))) (networks : List NetworkValue) (i : ℕ) → length paths ≤ i → AreNetworksAt bytes_at (take i paths) networks
    → AreNetworksAt bytes_at paths networks
all_networks bytes_at paths networks i all read = rw (take_all i paths all) at read
