-- Each recursion is the same.
use Rattle.division_rules.proofs.ListWords.{words_are_list_words}
use Rattle.division_rules.proofs.laws.words_are_list_words.Goals as goal

pub returns : goal.returns
returns c = words_are_list_words
