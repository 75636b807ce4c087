mod StopLemmas
