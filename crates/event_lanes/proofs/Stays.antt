-- What is said of a pass of a hub, where the traffic changes elsewhere.
use Rattle.std.proofs.Common.{◌≡◌, ◌≢◌, ℕ, ◌<◌, ◌≤◌, true≢false, sym, ap, ◌∙◌, arith}
use Rattle.std.specs.Prelude.{Option, Some}
use Rattle.std.specs.Option.{unwrap_or}
use Rattle.std.proofs.lemmas.Option.{none-some}
use Rattle.event_lanes.specs.declared.rule.Back.{Back}
use Rattle.event_lanes.specs.declared.rule.View.{View}
use Rattle.event_lanes.specs.Passes.{spent_pass}
use Rattle.event_lanes.specs.Rule.{Traffic, FitsLane, FitsBack, FitsDrain, FitsPass}

-- two passes of one lane are one pass
same_seat : (o : Option ℕ) (i j : ℕ) → o ≡ Some i → o ≡ Some j → i ≡ j
same_seat o i j of_i of_j = ap (λ s. unwrap_or s 0) (sym of_i ∙ of_j)

module _ {A : Type 0} where
  -- what is said of a lane stays where the traffic says the same of it
  pub lane_stays : (old new : Traffic A) (pass : ℕ) (view : View A) → new.seat view.number ≡ old.seat view.number
      → old.made ≤ new.made → new.sent view.number ≡ old.sent view.number → new.lanes ≡ old.lanes
      → FitsLane old pass view → FitsLane new pass view
  lane_stays old new pass view seat made sent lanes fits =
      record {
        only = seat ∙ fits.only;
        made = (let below : view.number < old.made = fits.made in omega arith);
        put = fits.put ∙ sym sent;
        lanes = fits.lanes ∙ sym lanes;
      }

  pub back_stays : (old new : Traffic A) (back : Back A) → new.seat back.lane ≡ old.seat back.lane
      → old.made ≤ new.made → new.sent back.lane ≡ old.sent back.lane
      → FitsBack old back → FitsBack new back
  back_stays old new back seat made sent fits =
      record {
        gone = seat ∙ fits.gone;
        made = (let below : back.lane < old.made = fits.made in omega arith);
        put = fits.put ∙ sym sent;
      }

  -- no other pass is the drain's
  pub one_drain : (traffic : Traffic A) (pass other : ℕ) (view found : View A) → FitsDrain traffic pass view
      → other ≢ pass → FitsDrain traffic other found → ⊥
  one_drain traffic pass other view found mine apart theirs = apart (theirs.only ∙ sym mine.only)

  -- a lane that was given back isn't one that is out
  pub back_apart : (traffic : Traffic A) (pass : ℕ) (view : View A) (back : Back A)
      → FitsLane traffic pass view → FitsBack traffic back → back.lane ≢ view.number
  back_apart traffic pass view back lane gone same =
      none-some pass (sym gone.gone ∙ ap traffic.seat same ∙ lane.only)

  pub lane_apart : (traffic : Traffic A) (pass other : ℕ) (view found : View A)
      → FitsLane traffic pass view → FitsLane traffic other found → other ≢ pass
      → found.number ≢ view.number
  lane_apart traffic pass other view found mine theirs apart same =
      apart (same_seat (traffic.seat found.number) other pass theirs.only (ap traffic.seat same ∙ mine.only))

  -- a pass that is no one's fits any traffic
  pub spent_fits : (traffic : Traffic A) (pass : ℕ) → FitsPass traffic pass spent_pass
  spent_fits traffic pass = ((λ puts. absurd (true≢false (sym puts))), λ drains. absurd (true≢false (sym drains)))
