mod LeastBad
