use Rattle.aes.proofs.Entries.{Filled, half_of, word_of, twice_of}
use Rattle.aes.proofs.products.fill_products.Given as goal

-- Each loop fills one table from the one before it: halves of words, words, and each word twice.
abbrev pub invariant-loop-i : goal.invariant-loop-i
invariant-loop-i l = Filled half_of l.i l.halves

abbrev pub invariant-loop-i-2 : goal.invariant-loop-i-2
invariant-loop-i-2 l = Filled word_of l.i l.words

abbrev pub invariant-loop-i-3 : goal.invariant-loop-i-3
invariant-loop-i-3 l = Filled twice_of l.i l.t
