mod FoldLemmas
