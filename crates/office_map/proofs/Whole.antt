-- A whole map, from its parts.
use Rattle.std.proofs.Common.{◌≡◌, ℕ, List, [], ◌++◌, Bool, refl, sym, ap, ◌∙◌, subst}
use Rattle.line_network.specs.Network.{NetworkValue}
use Rattle.operating_db.specs.Office.{Office}
use Rattle.place_names.specs.declared.named_place.NamedPlace.{NamedPlace}
use Rattle.reply_texts.specs.Lines.{Adds, AreLines}
use Rattle.wagons_and_orders.specs.declared.wagon_row.WagonRow.{WagonRow}
use Rattle.office_map.specs.Frame.{outside_text}
use Rattle.office_map.specs.Map.{edges_of, has_few, has_named, head_of, IsChosen, IsDrawn}
use Rattle.office_map.specs.Outside.{outside_places}
use Rattle.office_map.specs.Places.{IsPlaceOf}
use Rattle.office_map.specs.Shown.{are_shown, shown_places}
use Rattle.office_map.specs.declared.choice.Choice.{Choice}
use Rattle.office_map.specs.declared.shown.ShownOrder.{ShownOrder}
use Rattle.office_map.proofs.Pushed.{pushed}

module _ (office : Office) (network : NetworkValue) (named : List NamedPlace) (wagons : List WagonRow) (orders : List ShownOrder) where
  -- the parts, added one after the other
  pub map_pushed : (shown : List Bool) (places outside : List (List ℕ)) (few is_named : Bool) (t0 t1 t2 t3 t4 t5 : List ℕ) → few ≡ has_few network shown places outside → is_named ≡ has_named named
      → t1 ≡ t0 ++ head_of few is_named office.network → Adds (AreLines (IsPlaceOf named wagons orders) places) t1 t2 → t3 ≡ t2 ++ outside_text
      → Adds (AreLines (IsPlaceOf named wagons orders) outside) t3 t4 → t5 ≡ t4 ++ edges_of named network shown office.orders wagons
      → Adds (IsDrawn office network named wagons orders shown places outside) t0 t5
  map_pushed shown places outside few is_named t0 t1 t2 t3 t4 t5 is_few names_known head inside between beside edges =
      let head_text = head_of (has_few network shown places outside) (has_named named) office.network in
      let first : t1 ≡ t0 ++ head_text = head ∙ ap (λ (b : Bool). t0 ++ head_of b is_named office.network) is_few ∙ ap (λ (b : Bool). t0 ++ head_of (has_few network shown places outside) b office.network) names_known in
      let two = pushed t0 head_text inside.added t1 t2 first inside.whole in
      let three = pushed t0 (head_text ++ inside.added) outside_text t2 t3 two between in
      let four = pushed t0 (head_text ++ inside.added ++ outside_text) beside.added t3 t4 three beside.whole in
      record {
        added = head_text ++ inside.added ++ outside_text ++ beside.added ++ edges_of named network shown office.orders wagons;
        is = record { inside = inside.added; beside = beside.added; are_inside = inside.is; are_beside = beside.is; whole = refl };
        whole = pushed t0 (head_text ++ inside.added ++ outside_text ++ beside.added) (edges_of named network shown office.orders wagons) t4 t5 four edges;
      }

  -- from nothing, with the places that are asked for
  pub chosen_is : (choice : Choice) (shown : List Bool) (all other places outside : List (List ℕ)) (old text : List ℕ) → all ≡ network.places → other ≡ network.places
      → shown ≡ are_shown choice wagons orders all → places ≡ shown_places choice wagons orders other → outside ≡ outside_places network wagons orders → old ≡ []
      → Adds (IsDrawn office network named wagons orders shown places outside) old text → IsChosen office network named choice wagons orders text
  chosen_is choice shown all other places outside old text all_is other_is shown_is places_is outside_is none drawn =
      let is_text : drawn.added ≡ text = sym (drawn.whole ∙ ap (λ (t : List ℕ). t ++ drawn.added) none) in
      let here = subst (λ (t : List ℕ). IsDrawn office network named wagons orders shown places outside t) is_text drawn.is in
      let seen = subst (λ (s : List Bool). IsDrawn office network named wagons orders s places outside text) (shown_is ∙ ap (are_shown choice wagons orders) all_is) here in
      let placed = subst (λ (p : List (List ℕ)). IsDrawn office network named wagons orders (are_shown choice wagons orders network.places) p outside text) (places_is ∙ ap (shown_places choice wagons orders) other_is) seen in
      subst (λ (o : List (List ℕ)). IsDrawn office network named wagons orders (are_shown choice wagons orders network.places) (shown_places choice wagons orders network.places) o text) outside_is placed
