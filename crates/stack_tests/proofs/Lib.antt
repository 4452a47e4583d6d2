mod Storable
