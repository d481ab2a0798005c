mod Flattened
