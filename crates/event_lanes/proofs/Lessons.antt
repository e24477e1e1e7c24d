-- What a hub's rule tells of the view of one pass.
use Rattle.std.proofs.Common.{◌≡◌, ℕ, ◌<◌, ◌≤◌, true, List, [], ◌∷◌, ◌++◌, length, sym, ap, ◌∙◌, arith, append-nil, length-append}
use Rattle.crossbeam_queue.specs.Fifo.{Learns, Held}
use Rattle.split_paths.proofs.Lists.{all_weaker}
use Rattle.event_lanes.proofs.Lanes.{of_lane-append, prefix_of, all_made, all_of_one}
use Rattle.event_lanes.specs.Posts.{of_lane, ArePrefixes, AllTaken}
use Rattle.event_lanes.specs.Rule.{KeepsHub, Beside}
use Rattle.event_lanes.specs.Views.{HeldBeside}
use Rattle.split_paths.specs.Key.{IsTrueEvent}
use Rattle.split_paths.specs.declared.event.Event.{Event}
use Rattle.event_lanes.specs.declared.rule.Post.{Post}
use Rattle.event_lanes.specs.declared.rule.View.{View}

module _ {A : Type 0} (IsTrue : A → Type 0) where
  pub stands : (pass : ℕ) (v : View A) → Learns (KeepsHub IsTrue) pass v (Beside IsTrue v)
  stands pass v items views keeps at_pass = (views, pass, keeps, at_pass)

  -- what was taken of a lane that was given back is the beginning of what it put
  pub begins_each : (v : View A) (items : List (Post A)) → v.drains ≡ true → Beside IsTrue v items
      → ArePrefixes v.taken v.backs
  begins_each v items drains (views, pass, (traffic, agrees), at_pass) =
      let mine = (agrees.fits pass v at_pass).1 drains in
      all_weaker _ _
      (λ back fits.
      prefix_of (of_lane back.lane v.taken) (of_lane back.lane items) back.put
      (fits.put ∙ sym (agrees.order back.lane) ∙ of_lane-append back.lane traffic.got items
      ∙ ap (λ taken. of_lane back.lane taken ++ of_lane back.lane items) (sym mine.taken)))
      v.backs mine.backs

  -- beside an empty queue, all of the lanes that were given back was taken
  pub all_taken : (v : View A) → v.drains ≡ true → Beside IsTrue v []
      → AllTaken v.made v.taken v.backs
  all_taken v drains (views, pass, (traffic, agrees), at_pass) =
      let mine = (agrees.fits pass v at_pass).1 drains in
      let order : (lane : ℕ) → of_lane lane v.taken ≡ traffic.sent lane =
      (λ lane. ap (of_lane lane) (mine.taken ∙ sym (append-nil traffic.got)) ∙ agrees.order lane) in
      record {
        whole = all_weaker _ _ (λ back fits. order back.lane ∙ sym fits.put) v.backs mine.backs;
        made_only =
            λ lane later. order lane
            ∙ (agrees.unmade lane (let same : v.made ≡ traffic.made = mine.made in omega arith)).1;
      }

  -- the same of a queue that held nothing
  pub all_taken_at : (v : View A) → v.drains ≡ true → Held 0 (Beside IsTrue v)
      → AllTaken v.made v.taken v.backs
  all_taken_at v drains ([], none, beside) = all_taken v drains beside
  all_taken_at v drains (x ∷ items, some, beside) = absurd (omega arith)

  -- the only lane put at least what the queue holds
  pub put_all : (room : ℕ) (v : View A) → v.puts ≡ true → v.lanes ≡ 1 → Held room (Beside IsTrue v)
      → room ≤ length v.put
  put_all room v puts one (items, full, (views, pass, (traffic, agrees), at_pass)) =
      let mine = (agrees.fits pass v at_pass).0 puts in
      let below : v.number < traffic.made = mine.made in
      let few : traffic.made ≤ traffic.lanes = agrees.few in
      let all : v.lanes ≡ traffic.lanes = mine.lanes in
      let made : traffic.made ≡ 1 = omega arith in
      let each = all_made 1 (traffic.got ++ items)
      (λ lane later. agrees.order lane ∙ (agrees.unmade lane (omega arith)).1) in
      let whole : length (of_lane v.number (traffic.got ++ items)) ≡ length (traffic.got ++ items) =
      all_of_one v.number (traffic.got ++ items) (omega arith) each in
      let sent : length v.put ≡ length (of_lane v.number (traffic.got ++ items)) =
      ap length (mine.put ∙ sym (agrees.order v.number)) in
      omega (arith, length-append traffic.got items)

module _ {L : Type 0} (events : List (Event L)) where
  pub held_beside : (v : View (Event L)) (count : ℕ) → Held count (Beside (IsTrueEvent events) v) → HeldBeside events v count
  unfolding HeldBeside
  held_beside v count held = held
