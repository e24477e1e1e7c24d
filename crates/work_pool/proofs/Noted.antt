-- What was noted stays noted.
use Rattle.std.proofs.Common.{◌≡◌, ℕ, List, [], ◌∷◌, ◌++◌, map, length, refl, sym, ap, ◌∙◌, subst}
use Rattle.std.proofs.lemmas.List.{map-append}
use Rattle.std.specs.List.{AllByRecursion, flat_map}
use Rattle.split_paths.specs.declared.event.Event.{Event}
use Rattle.split_paths.specs.Walk.{path_of}
use Rattle.split_paths.proofs.Lists.{all_append, all_weaker}
use Rattle.event_lanes.specs.declared.rule.Post.{Post}
use Rattle.event_lanes.specs.declared.rule.Back.{Back}
use Rattle.event_lanes.specs.Posts.{AreNumbered, AllTaken}
use Rattle.account_laws.proofs.Lanes.{taken_weighs}
use Rattle.account_laws.proofs.Paths.{all_noted}
use Rattle.tally_laws.specs.Weights.{WeighTheSame}
use Rattle.collector.specs.Notes.{Notes, IsCollector, IsNoted, Keeps, to_give}
use Rattle.work_pool.specs.Noting.{AreNoted, Leads}

module _ {L : Type 0} (events : List (Event L)) where
  pub keeps_itself : (c : Notes L) → Keeps events c c
  unfolding Keeps
  keeps_itself c = (λ path noted. noted, refl)

  pub keeps_then : (a b c : Notes L) → Keeps events a b → Keeps events b c → Keeps events a c
  unfolding Keeps
  keeps_then a b c one two = (λ path noted. two.0 path (one.0 path noted), two.1 ∙ one.1)

  pub keeps_noted : (a b : Notes L) (met : List (Event L)) → Keeps events a b → AreNoted events a met → AreNoted events b met
  unfolding Keeps AreNoted
  keeps_noted a b met keeps noted =
      all_weaker (λ (e : Event L). IsNoted events a (path_of e)) (λ (e : Event L). IsNoted events b (path_of e))
      (λ e. keeps.0 (path_of e)) met noted

  pub noted_more : (c : Notes L) (met : List (Event L)) (e : Event L) → AreNoted events c met → IsNoted events c (path_of e)
      → AreNoted events c (met ++ e ∷ [])
  unfolding AreNoted
  noted_more c met e all one = all_append (λ (e : Event L). IsNoted events c (path_of e)) met (e ∷ []) all (one, tt)

  pub one_noted : (c : Notes L) (e : Event L) → IsNoted events c (path_of e) → AreNoted events c (e ∷ [])
  unfolding AreNoted
  one_noted c e one = (one, tt)

  pub noted_both : (c : Notes L) (met more : List (Event L)) → AreNoted events c met → AreNoted events c more
      → AreNoted events c (met ++ more)
  unfolding AreNoted
  noted_both c met more all rest = all_append (λ (e : Event L). IsNoted events c (path_of e)) met more all rest

  pub none_noted : (c : Notes L) → AreNoted events c []
  unfolding AreNoted
  none_noted c = tt

  -- events that weigh the same were noted too
  pub noted_alike : (c : Notes L) (root met : List (Event L)) → WeighTheSame root met
      → AreNoted events c met → AreNoted events c root
  unfolding AreNoted
  noted_alike c root met same all = all_noted (IsNoted events c) root met same all

  -- where all was taken and noted, all that was put was noted
  pub puts_noted : (c : Notes L) (made : ℕ) (taken : List (Post (Event L))) (backs : List (Back (Event L)))
      → AreNumbered 0 backs → made ≡ length backs → AllTaken made taken backs
      → AreNoted events c (map (λ (post : Post (Event L)). post.item) taken)
      → AreNoted events c (flat_map (λ (back : Back (Event L)). back.put) backs)
  puts_noted c made taken backs numbered count all noted =
      noted_alike c (flat_map (λ (back : Back (Event L)). back.put) backs) (map (λ (post : Post (Event L)). post.item) taken)
      (λ h. sym (taken_weighs taken backs numbered (subst (λ (n : ℕ). AllTaken n taken backs) count all) h)) noted

  -- the whole is left first, and nothing last
  pub leads_itself : (c : Notes L) (whole : List (Event L)) → Leads events c whole whole
  unfolding Leads
  leads_itself c whole later keeps noted = noted

  pub leads_all : (c : Notes L) (left whole : List (Event L)) → Leads events c left whole → left ≡ [] → AreNoted events c whole
  unfolding Leads
  leads_all c left whole leads none =
      leads c (keeps_itself c) (subst (λ (xs : List (Event L)). AreNoted events c xs) (sym none) (none_noted c))

  -- what was noted of it isn't left: at its end, or at its front
  pub leads_last : (c d : Notes L) (left less more whole : List (Event L)) → Leads events c left whole → left ≡ less ++ more
      → Keeps events c d → AreNoted events d more → Leads events d less whole
  unfolding Leads
  leads_last c d left less more whole leads cut keeps noted later on all =
      leads later (keeps_then c d later keeps on)
      (subst (λ (xs : List (Event L)). AreNoted events later xs) (sym cut)
      (noted_both later less more all (keeps_noted d later more on noted)))

  pub leads_next : (c d : Notes L) (left less : List (Event L)) (e : Event L) (whole : List (Event L)) → Leads events c left whole
      → left ≡ e ∷ less → Keeps events c d → IsNoted events d (path_of e) → Leads events d less whole
  unfolding Leads
  leads_next c d left less e whole leads cut keeps noted later on all =
      leads later (keeps_then c d later keeps on)
      (subst (λ (xs : List (Event L)). AreNoted events later xs) (sym cut)
      (noted_both later (e ∷ []) less (keeps_noted d later (e ∷ []) on (one_noted d e noted)) all))

  pub leads_same : (c : Notes L) (left less whole : List (Event L)) → Leads events c left whole → less ≡ left → Leads events c less whole
  leads_same c left less whole leads same = subst (λ (xs : List (Event L)). Leads events c xs whole) (sym same) leads

  -- one more was taken and noted
  pub noted_taken : (c d : Notes L) (old new : List (Post (Event L))) (post : Post (Event L)) → Keeps events c d
      → AreNoted events c (map (λ (p : Post (Event L)). p.item) old) → new ≡ old ++ post ∷ [] → IsNoted events d (path_of post.item)
      → AreNoted events d (map (λ (p : Post (Event L)). p.item) new)
  noted_taken c d old new post keeps noted more one =
      subst (λ (xs : List (Event L)). AreNoted events d xs)
      (sym (ap (map (λ (p : Post (Event L)). p.item)) more ∙ map-append (λ (p : Post (Event L)). p.item) old (post ∷ [])))
      (noted_more d (map (λ (p : Post (Event L)). p.item) old) post.item (keeps_noted c d (map (λ (p : Post (Event L)). p.item) old) keeps noted) one)

  pub keeps_giving : (a b : Notes L) → Keeps events a b → to_give events b ≡ to_give events a
  unfolding Keeps
  keeps_giving a b keeps = keeps.1

pub ruleset lead_rules = (keeps_itself, keeps_then, leads_itself, leads_all, leads_last, leads_next, leads_same, one_noted)

pub ruleset note_rules = (keeps_itself, keeps_then, keeps_noted, noted_more, puts_noted)

pub ruleset keep_rules = (keeps_itself, keeps_then)

pub ruleset give_rules = (keeps_giving)
